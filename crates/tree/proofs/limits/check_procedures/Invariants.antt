use Rattle.std.proofs.Common.{map, length, vec_items}
use Rattle.program.specs.Rows.{OkP}
use Rattle.tree.specs.Meaning.{meaning_p}
use Rattle.tree.proofs.Rest.{rest_p}
use Rattle.tree.proofs.Fitting.{Left}
use Rattle.tree.proofs.limits.check_procedures.Given as goal

abbrev pub invariant-loop-i : goal.invariant-loop-i
invariant-loop-i l = Left (OkP l.tree.shared (length (vec_items l.tree.procedures))) (map meaning_p l.procedure-items) (rest_p l.procedure-items l.i)
