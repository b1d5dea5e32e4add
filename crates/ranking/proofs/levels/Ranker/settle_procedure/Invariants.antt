-- `settle_procedure`: value after value.
use Rattle.std.proofs.Common.{ℕ, ◌+◌, ◌<◌, get_or}
use Rattle.saturation.specs.Bits.{On}
use Rattle.ranking.specs.Calls.{Done}
use Rattle.ranking.specs.Levels.{OfLevel}
use Rattle.ranking.specs.Steps.{Step}
use Rattle.ranking.proofs.levels.Ranker.settle_procedure.Given as goal

abbrev pub invariant-loop-value : goal.invariant-loop-value
invariant-loop-value l =
    let a = l.fn.self in
    Step (OfLevel a.system a.procedures a.level.now) a l.self × ((x : ℕ) → x < l.value → On a.level.now l.f x → Done a.system.graph.now a.system.shared a.system.nodes l.self.sets.now (get_or a.procedures.bases.now l.f 0 + x))
