-- `settle_call`: value after value.
use Rattle.std.proofs.Common.{◌≡◌, ℕ, ◌<◌}
use Rattle.saturation.specs.Bits.{On}
use Rattle.ranking.specs.Calls.{callee}
use Rattle.ranking.specs.Steps.{Step}
use Rattle.ranking.proofs.levels.Ranker.settle_call.Given as goal

abbrev pub invariant-loop-x : goal.invariant-loop-x
invariant-loop-x l = Step (λ d. d ≡ callee l.fn.self.system.graph.now l.fn.self.system.shared l.n) l.fn.self l.self × ((y : ℕ) → y < l.x → On l.self.sets.now l.n y → ⊥)
