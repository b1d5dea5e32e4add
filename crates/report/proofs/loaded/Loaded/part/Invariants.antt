use Rattle.report.proofs.Parts.{Passing}
use Rattle.report.proofs.loaded.Loaded.part.Given as goal

abbrev pub invariant-loop-i : goal.invariant-loop-i
invariant-loop-i l =
    (goal.iterator-loop-i).can_next l.i-iterator
    × (goal.iterator-loop-i).is_finite l.i-iterator
    × Passing (l.self.bytes.now) l.self.header l.number l.base l.i-iterator.count l.i-iterator.iter
