use Rattle.std.proofs.Common.{arith}
use Rattle.expansion.proofs.Walking.{walk_first, walk_here, here, proc_is}
use Rattle.expansion.proofs.Whole.{sofar_first, sofar_next, sofar_all}
use Rattle.expansion.proofs.programs.expand.Goals as goal

pub loop-f-init : goal.loop-f-init
loop-f-init c =
    let e = c.enumerate-f-items.ensures in
    rw c.into_iter-f-iterator.ensures.into_iter_gives (sofar_first _ _ (walk_first _ _ e.source e.count c.new.ensures) e.count)

pub returns : goal.returns
returns c = sofar_all c.loop-f.invariant c.next.new.self c.in-None.ensures.steps

pub expand_procedure-requires : goal.expand_procedure-requires
expand_procedure-requires c =
    let h = c.requires in
    let y = here c.loop-f.invariant.walk c.next.new.self _ _ c.in-Some.ensures.steps h.0 h.1.headed in
    (h.0, c.in-Some.f, y.p, rw c.first_place-place.ensures (proc_is _ _ _ h.1 (walk_here c.loop-f.invariant.walk c.next.new.self _ _ c.in-Some.ensures.steps) y), omega (arith, h.3))

pub loop-f-preserved : goal.loop-f-preserved
loop-f-preserved c = sofar_next {x = c.args.source} c.loop-f.invariant c.next.new.self c.requires.1 _ _ c.in-Some.ensures.steps _ (rw (← c.first_place-place.ensures) c.expand_procedure.ensures)
