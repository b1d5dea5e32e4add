use Rattle.expansion.proofs.Surveying.{Passing}
use Rattle.expansion.proofs.sites.Sites.list_callee.Given as goal

abbrev pub invariant-loop-f : goal.invariant-loop-f
invariant-loop-f l = Passing l.source l.callee l.initial.self l.self l.f-iterator
