use Rattle.std.proofs.Common.{arith}
use Rattle.expansion.proofs.Walking.{walk_here, here, proc_is}
use Rattle.expansion.proofs.Surveying.{passing_next, passing_last, passing_room}
use Rattle.expansion.proofs.sites.Sites.list_callee.Goals as goal

pub list_procedure-requires : goal.list_procedure-requires
list_procedure-requires c =
    let h = c.requires in
    let v = c.loop-f.invariant in
    let m = c.in-Some.ensures.steps in
    let y = here v.walk c.next.new.self _ _ m h.0 h.1.headed in
    (h.0, c.in-Some.f, y.p, rw c.first_place-start.ensures (proc_is _ _ _ h.1 (walk_here v.walk c.next.new.self _ _ m) y), omega (arith, passing_room v c.next.new.self _ _ m h.1, (v.it h.0 h.1).adds.long, h.2))

pub loop-f-preserved : goal.loop-f-preserved
loop-f-preserved c = passing_next c.loop-f.invariant c.next.new.self _ _ c.in-Some.ensures.steps _ (rw (← c.first_place-start.ensures) c.list_procedure.ensures)

pub returns : goal.returns
returns c = passing_last c.loop-f.invariant c.next.new.self c.in-None.ensures.steps
