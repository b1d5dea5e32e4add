use Rattle.expansion.proofs.Gathering.{Gathered}
use Rattle.expansion.proofs.sites.Sites.list_all.Given as goal

abbrev pub invariant-loop-callee : goal.invariant-loop-callee
invariant-loop-callee l = Gathered l.source l.initial.self l.ends l.self l.callee
