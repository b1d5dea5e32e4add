-- `first_level`: procedure after procedure.
use Rattle.ranking.proofs.Idling.{IdleUpto}
use Rattle.ranking.proofs.first.first_level.Given as goal

abbrev pub invariant-loop-f : goal.invariant-loop-f
invariant-loop-f l = IdleUpto l.system.shared l.procedures.bases.now l.counts l.level l.f
