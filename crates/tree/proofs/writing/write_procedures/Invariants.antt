use Rattle.std.proofs.Common.{map, vec_items}
use Rattle.program.specs.Rows.{row_p, rows, OkP, Every}
use Rattle.tree.specs.Meaning.{meaning_p}
use Rattle.tree.proofs.Rest.{rest_p}
use Rattle.tree.proofs.Appending.{Writing}
use Rattle.tree.proofs.writing.write_procedures.Given as goal

abbrev pub invariant-loop-procedure : goal.invariant-loop-procedure
invariant-loop-procedure l = Every (OkP 6 64) (rest_p l.procedures l.procedure-index) × Writing (rows row_p (map meaning_p l.procedures)) (rows row_p (rest_p l.procedures l.procedure-index)) (vec_items l.initial.out) (vec_items l.out)
