-- `matching`: the values passed so far.
use Rattle.std.proofs.Common.{ℕ, ◌<◌, ◌≤◌}
use Rattle.answers.specs.Matching.{Fitting, SomeFits}
use Rattle.answers.proofs.matches.matching.Given as goal

abbrev pub invariant-loop-values : goal.invariant-loop-values
invariant-loop-values l = (l.count ≤ l.values) × (0 < l.count → SomeFits l.bytes l.pattern.mask l.pattern.want) × ((v : ℕ) → v < l.values → Fitting l.bytes l.pattern.mask l.pattern.want v → 0 < l.count)
