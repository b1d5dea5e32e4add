use Rattle.std.proofs.Common.{arith}
use Rattle.expansion.proofs.Placed.{next_small}
use Rattle.expansion.proofs.Stepping.{going_next, going_last, going_is, going_end}
use Rattle.expansion.proofs.procedures.expand_steps.Goals as goal

pub expand_place-requires : goal.expand_place-requires
expand_place-requires c = let h = c.requires in (h.0, h.1, h.2, _, going_is (c.loop-found.invariant _ _ _ h.3) c.next.new.self c.in-Some.found c.in-Some.ensures.steps, omega (arith, h.4))

pub next-place-requires : goal.next-place-requires
next-place-requires c = omega (arith, next_small (going_is (c.loop-found.invariant _ _ _ c.requires.3) c.next.new.self c.in-Some.found c.in-Some.ensures.steps))

pub loop-found-preserved : goal.loop-found-preserved
loop-found-preserved c = rw c.next-place.ensures (λ g f p h. going_next (c.loop-found.invariant g f p h) c.next.new.self c.in-Some.found c.in-Some.ensures.steps _ c.expand_place.ensures)

pub returns : goal.returns
returns c = λ g f p h. going_last (c.loop-found.invariant g f p h) c.next.new.self c.in-None.ensures.steps _ c.expand_place-2.ensures

pub expand_place-requires-2 : goal.expand_place-requires-2
expand_place-requires-2 c = let h = c.requires in (h.0, h.1, h.2, _, going_end (c.loop-found.invariant _ _ _ h.3) c.next.new.self c.in-None.ensures.steps, omega (arith, h.4))
