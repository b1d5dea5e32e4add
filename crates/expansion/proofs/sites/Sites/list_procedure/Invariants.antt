use Rattle.expansion.proofs.Calling.{Inside}
use Rattle.expansion.proofs.sites.Sites.list_procedure.Given as goal

abbrev pub invariant-loop-found : goal.invariant-loop-found
invariant-loop-found l = Inside l.source l.fn.procedure l.initial.place l.callee l.initial.self l.self l.found-iterator l.place
