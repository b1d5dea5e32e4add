-- `settle_level`: procedure after procedure.
use Rattle.std.proofs.Common.{ℕ, ◌<◌}
use Rattle.ranking.specs.Levels.{OfLevel, ProcedureDone}
use Rattle.ranking.specs.Steps.{Step}
use Rattle.ranking.proofs.levels.Ranker.settle_level.Given as goal

abbrev pub invariant-loop-f : goal.invariant-loop-f
invariant-loop-f l =
    let a = l.fn.self in
    Step (OfLevel a.system a.procedures a.level.now) a l.self × ((h : ℕ) → h < l.f → ProcedureDone a.system a.procedures a.level.now l.self.sets.now h)
