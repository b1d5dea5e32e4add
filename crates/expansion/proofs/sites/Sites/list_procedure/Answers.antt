use Rattle.std.proofs.Common.{arith}
use Rattle.expansion.proofs.Calling.{inside_next, inside_last, within_small, within_room}
use Rattle.expansion.proofs.sites.Sites.list_procedure.Goals as goal

pub note-requires : goal.note-requires
note-requires c = λ x. let h = c.requires in let k = c.loop-found.invariant in omega (arith, within_room h.3 k c.next.new.self c.in-Some.found c.in-Some.ensures.steps x, (k.it _ _ _ h.3).adds.long, h.4)

pub next-place-requires : goal.next-place-requires
next-place-requires c = omega (arith, within_small c.requires.3 c.loop-found.invariant c.next.new.self c.in-Some.found c.in-Some.ensures.steps)

pub loop-found-preserved : goal.loop-found-preserved
loop-found-preserved c = rw c.next-place.ensures (inside_next c.loop-found.invariant c.next.new.self c.in-Some.found c.in-Some.ensures.steps _ c.note.ensures)

pub returns : goal.returns
returns c = inside_last c.loop-found.invariant c.next.new.self c.in-None.ensures.steps
