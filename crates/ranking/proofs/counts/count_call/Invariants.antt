-- `count_call`: value after value, in the part of the counts that is the procedure's.
use Rattle.std.proofs.Common.{◌+◌, ◌-◌}
use borrow.Rule.Slice.PartMut.{put_mid}
use Rattle.ranking.proofs.Counted.{Counting}
use Rattle.ranking.proofs.counts.count_call.Given as goal

abbrev pub invariant-loop-x : goal.invariant-loop-x
invariant-loop-x l =
    let s = l.fn.system in
    Counting s.graph.now s.shared s.nodes l.sets l.n (put_mid l.base (l.base + s.shared - l.base) l.fn.counts l.own) l.x
