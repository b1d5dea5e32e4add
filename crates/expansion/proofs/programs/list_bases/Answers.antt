use Rattle.std.proofs.Common.{arith}
use Rattle.program.proofs.Sizes.{before_le}
use Rattle.std.specs.Iterator.Adapters.{enumerate_count}
use Rattle.expansion.proofs.Walking.{small, walk_first, walk_here, listed_first, listed_next, listed_last}
use Rattle.expansion.proofs.programs.list_bases.Goals as goal

pub loop-f-init : goal.loop-f-init
loop-f-init c =
    let e = c.enumerate-f-items.ensures in
    rw c.into_iter-f-iterator.ensures.into_iter_gives (listed_first _ (walk_first _ _ e.source e.count c.new.ensures) e.count)

pub loop-f-preserved : goal.loop-f-preserved
loop-f-preserved c =
    let e = c.in-Some.ensures.steps in
    listed_next c.loop-f.invariant _ _ _ e (omega (arith, walk_here c.loop-f.invariant.walk _ _ _ e, c.requires.1.header.procs, c.requires.2)) _ c.table_size.ensures.is

pub overflow_add-base : goal.overflow_add-base
overflow_add-base c =
    let g = c.requires.0 in
    omega (arith, c.loop-f.invariant.base g c.requires.1, before_le g.shared g.procs (enumerate_count c.loop-f.f-iterator), small c.requires.1, c.table_size.ensures.small)

pub returns : goal.returns
returns c = listed_last c.loop-f.invariant c.next.new.self c.in-None.ensures.steps
