-- `height`: level after level.
use Rattle.std.proofs.Common.{◌≡◌}
use Rattle.saturation.specs.Marks.{total}
use Rattle.ranking.specs.Levels.{AtLevel}
use Rattle.ranking.proofs.levels.Ranker.height.Given as goal

abbrev pub invariant-loop-self : goal.invariant-loop-self
invariant-loop-self l = record {
  system : l.self.system ≡ l.fn.self.system;
  procedures : l.self.procedures ≡ l.fn.self.procedures;
  level : AtLevel l.fn.self.system l.fn.self.procedures l.fn.self.sets.now l.height l.self.sets.now l.self.level.now;
}

abbrev pub decreases-loop-self : goal.decreases-loop-self
decreases-loop-self l = total l.self.sets.now
