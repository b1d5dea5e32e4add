use Rattle.places.proofs.Bytes.{Parted}
use Rattle.places.proofs.solving.write_table.Given as goal

abbrev pub invariant-loop-base : goal.invariant-loop-base
invariant-loop-base l =
    (goal.iterator-loop-base).can_next l.base-iterator ×
    (goal.iterator-loop-base).is_finite l.base-iterator ×
    Parted l.sets l.bases l.table l.base-iterator.iter.rest.now l.end
