-- `add_idle`: value after value.
use Rattle.ranking.specs.Levels.{IdleAdded}
use Rattle.ranking.proofs.first.add_idle.Given as goal

abbrev pub invariant-loop-x : goal.invariant-loop-x
invariant-loop-x l = IdleAdded l.x l.counts l.f l.initial.level l.level
