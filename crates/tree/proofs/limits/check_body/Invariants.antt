use Rattle.tree.specs.Limits.{InScope}
use Rattle.tree.specs.Meaning.{steps_from}
use Rattle.tree.proofs.Rest.{rest_i}
use Rattle.tree.proofs.Fitting.{Left}
use Rattle.tree.proofs.limits.check_body.Given as goal

abbrev pub invariant-loop-i : goal.invariant-loop-i
invariant-loop-i l = Left (InScope l.scope) (steps_from 0 l.body) (rest_i l.body l.i)
