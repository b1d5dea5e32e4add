use Rattle.std.proofs.Common.{ℕ, ◌-◌, ◌≤◌, length, Result}
use Rattle.program.specs.declared.refusals.Refusal.{Refusal}
use Rattle.program.specs.Reading.{ReadSteps}
use Rattle.program.proofs.procedures.read_steps.Given as goal

-- what the rest answers, the whole answers
abbrev pub invariant-loop-i : goal.invariant-loop-i
invariant-loop-i l = (l.end ≤ length l.bytes) × ((r : Result ℕ Refusal) → ReadSteps l.scope l.bytes (l.count - l._i) l.end r → ReadSteps l.scope l.bytes l.count l.at r)
