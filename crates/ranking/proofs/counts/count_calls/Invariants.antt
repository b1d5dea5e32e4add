-- `count_calls`: node after node.
use Rattle.ranking.specs.Counting.{Counted}
use Rattle.ranking.proofs.counts.count_calls.Given as goal

abbrev pub invariant-loop-n : goal.invariant-loop-n
invariant-loop-n l = Counted l.fn.system.graph.now l.fn.system.shared l.fn.system.nodes l.sets l.n l.counts
