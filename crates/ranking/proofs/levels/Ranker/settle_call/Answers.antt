-- `settle_call`: value after value.
use Rattle.std.proofs.Common.{◌≡◌, refl, below_more}
use Rattle.saturation.specs.Bits.{On}
use Rattle.ranking.specs.Calls.{callee}
use Rattle.ranking.proofs.Steps.{before, step_then}
use Rattle.ranking.proofs.levels.Ranker.settle_call.Goals as goal
use Rattle.ranking.proofs.levels.Ranker.settle_call.Goals.{then-is_left, else-is_left}

pub loop-x-preserved : goal.loop-x-preserved
loop-x-preserved c = elim c.if-is_left.branch [
  | then-is_left w ↦ simp w.self-is (
    step_then c.loop-x.invariant.0 (λ d. before c.loop-x.invariant.0 (λ y p l. d ≡ callee y.graph.now y.shared c.args.n)) w.settle_entry.ensures.settles,
    below_more (λ y. On w.settle_entry.new.self.sets.now c.args.n y → ⊥) c.loop-x.x (λ y h q. c.loop-x.invariant.1 y h (w.settle_entry.ensures.settles.settles.fewer _ _ q)) w.settle_entry.ensures.gone,
  )
  | else-is_left w ↦ simp w.self-is (c.loop-x.invariant.0, below_more (λ y. On c.loop-x.self.sets.now c.args.n y → ⊥) c.loop-x.x c.loop-x.invariant.1 (w.if-is_left.ensures.no refl))
]
