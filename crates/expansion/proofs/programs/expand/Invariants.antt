use Rattle.expansion.proofs.Whole.{Sofar}
use Rattle.expansion.proofs.programs.expand.Given as goal

abbrev pub invariant-loop-f : goal.invariant-loop-f
invariant-loop-f l = Sofar l.source.bytes.now l.source.header l.starts l.words l.f-iterator
