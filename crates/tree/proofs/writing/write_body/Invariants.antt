use Rattle.std.proofs.Common.{vec_items}
use Rattle.program.specs.Rows.{row_i, rows, OkI, Every}
use Rattle.tree.specs.Meaning.{steps_from}
use Rattle.tree.proofs.Rest.{rest_i}
use Rattle.tree.proofs.Appending.{Writing}
use Rattle.tree.proofs.writing.write_body.Given as goal

abbrev pub invariant-loop-i : goal.invariant-loop-i
invariant-loop-i l = Every (OkI 12 255 64) (rest_i l.body l.i) × Writing (rows row_i (steps_from 0 l.body)) (rows row_i (rest_i l.body l.i)) (vec_items l.initial.out) (vec_items l.out)
