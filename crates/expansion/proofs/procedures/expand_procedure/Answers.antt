use Rattle.std.proofs.Common.{arith}
use Rattle.expansion.proofs.Stepping.{steps_is}
use Rattle.expansion.proofs.procedures.expand_procedure.Goals as goal

pub expand_steps-requires : goal.expand_steps-requires
expand_steps-requires c = let h = c.requires in (h.0, h.1, h.2, steps_is h.3 c.steps.ensures, omega (arith, h.4))

pub returns : goal.returns
returns c = λ g f p h. c.expand_steps.ensures g f p (steps_is h c.steps.ensures)
