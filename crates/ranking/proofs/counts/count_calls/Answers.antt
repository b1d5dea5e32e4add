-- `count_calls`: node after node.
use Rattle.std.proofs.Common.{length, refl, inl, inr, arith}
use Rattle.std.proofs.lemmas.List.{get_or_past}
use Rattle.std.proofs.lemmas.Bool.{cases_lt}
use Rattle.ranking.proofs.Counted.{counted_none, counted_skip, not_call}
use Rattle.ranking.proofs.counts.count_calls.Goals as goal
use Rattle.ranking.proofs.counts.count_calls.Goals.{in-Call, in_default}

pub loop-n-init : goal.loop-n-init
loop-n-init c = counted_none _ _ _ _ _ (λ i. elim (cases_lt i (length c.args.counts.now)) [
  | inl h ↦ c.fill.ensures.clones i 0 h refl
  | inr h ↦ get_or_past c.fill.new.self i 0 (omega arith)
])

pub loop-n-preserved : goal.loop-n-preserved
loop-n-preserved c = elim c.match-node.branch [
  | in-Call w ↦ simp w.counts-is w.count_call.ensures
  | in_default w ↦ simp w.counts-is (counted_skip _ _ _ _ _ _ (not_call _ _ c.node.result c.node.ensures w.in_default.not-Call) c.loop-n.invariant)
]
