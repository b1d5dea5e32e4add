use Rattle.std.proofs.Common.{ℕ}
use Rattle.program.specs.Program.{Proc, Prog}
use Rattle.expansion.specs.Procs.{StepsIs}
use Rattle.expansion.proofs.Stepping.{Going}
use Rattle.expansion.proofs.procedures.expand_steps.Given as goal

abbrev pub invariant-loop-found : goal.invariant-loop-found
invariant-loop-found l = (g : Prog) (f : ℕ) (p : Proc) → StepsIs l.body.source l.fn.steps l.initial.place g f p → Going l.body.source l.body.callers l.initial.words l.words l.found-iterator l.place g f p
