use Rattle.std.proofs.Common.{vec_items, vec_len}
use Rattle.syntax.specs.Words.{words_left}
use Rattle.syntax.proofs.Reading.{Sofar}
use Rattle.syntax.proofs.decimal.read_decimal.Given as goal

abbrev pub invariant-loop-place : goal.invariant-loop-place
invariant-loop-place l =
    (goal.iterator-loop-place).can_next l.place-iterator
    × (goal.iterator-loop-place).is_finite l.place-iterator
    × Sofar l.text (words_left l.place-iterator) (vec_items l.bytes) (vec_len l.bytes) (vec_len l.lines)
