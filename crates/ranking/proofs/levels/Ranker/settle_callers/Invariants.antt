-- `settle_callers`: call place after call place.
use Rattle.std.proofs.Common.{◌≡◌, ℕ, ◌+◌, ◌<◌, ◌≤◌, get_or}
use Rattle.ranking.specs.Levels.{Taken, InPlace}
use Rattle.ranking.specs.Steps.{Step}
use Rattle.ranking.proofs.levels.Ranker.settle_callers.Given as goal

abbrev pub invariant-loop-site : goal.invariant-loop-site
invariant-loop-site l =
    let y = l.fn.self.system in
    let d = get_or l.fn.self.procedures.bases.now l.begun.procedure 0 + l.begun.value in
    Step (λ e. e ≡ d) l.fn.self l.self × ((s : ℕ) → s < l.site → get_or l.fn.self.procedures.starts.now l.begun.procedure 0 ≤ s → Taken y.graph.now y.shared y.nodes l.self.sets.now (λ n. InPlace y.graph.now y.shared y.sites.now d s n))
