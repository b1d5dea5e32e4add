-- `count_call`: value after value, in the part of the counts that is the procedure's.
use Rattle.std.proofs.Common.{◌≡◌, ◌+◌, ◌-◌, ◌<◌, ◌≤◌, length, get_or, set, refl, sym, ap, ◌∙◌, subst, arith}
use Rattle.std.proofs.lemmas.List.{set-get_or}
use borrow.Rule.Slice.PartMut.{put_mid, put_same}
use Rattle.saturation.specs.System.{proc}
use Rattle.ranking.proofs.Tallies.{counts_le}
use Rattle.ranking.proofs.Idling.{part_long}
use Rattle.ranking.proofs.Counted.{Counting, counting_first, counting_has, counting_not, counting_all, part_room, part_read, part_set, part_past}
use Rattle.ranking.proofs.counts.count_call.Goals as goal
use Rattle.ranking.proofs.counts.count_call.Goals.{then-has, else-has}

pub loop-x-init : goal.loop-x-init
loop-x-init c = subst (λ l. Counting c.args.system.graph.now c.args.system.shared c.args.system.nodes c.args.sets.now c.args.n l 0) (sym (put_same c.base-base.result (c.base-base.result + c.args.system.shared - c.base-base.result) c.args.counts.now)) (counting_first c.requires.counted)

pub overflow_add-count : goal.overflow_add-count
overflow_add-count c =
    let r = part_room c.args.counts.now c.requires.countable.fine c.requires.countable.counts_long c.requires.within c.base-base.ensures in
    let b = c.base-base.result in
    let x = c.loop-x.x in
    let s = c.args.system in
    let long = part_long c.args.counts.now b s.shared r in
    let few = counts_le (c.loop-x.invariant.rest c.args.n x c.requires.within (omega (arith, long, c.loop-x-test.true)) (omega arith)) in
    let same : get_or (put_mid b (b + s.shared - b) c.args.counts.now c.loop-x.own) (proc s.graph.now c.args.n + x) 0 ≡ get_or c.loop-x.own x 0 =
    ap (λ i. get_or (put_mid b (b + s.shared - b) c.args.counts.now c.loop-x.own) (i + x) 0) (sym c.base-base.ensures) ∙ part_read c.args.counts.now c.loop-x.own b (b + s.shared - b) (omega arith) x (omega (arith, c.loop-x.auto.own, c.loop-x-test.true)) in
    omega (arith, few, same, c.requires.countable.small, c.requires.within)

pub loop-x-preserved : goal.loop-x-preserved
loop-x-preserved c =
    let r = part_room c.args.counts.now c.requires.countable.fine c.requires.countable.counts_long c.requires.within c.base-base.ensures in
    let b = c.base-base.result in
    let s = c.args.system in
    let e = b + s.shared - b in
    let own = c.loop-x.own in
    let x = c.loop-x.x in
    let at : b ≤ length c.args.counts.now = omega arith in
    let in_part : x < length own = omega (arith, c.loop-x.auto.own, c.loop-x-test.true) in
    let small : x < s.shared = omega (arith, part_long c.args.counts.now b s.shared r, c.loop-x-test.true) in
    let q = c.base-base.ensures in
    elim c.if-has.branch [
      | then-has w ↦
          subst (λ l. Counting s.graph.now s.shared s.nodes c.args.sets.now c.args.n l (x + 1))
          (ap (λ i. set (put_mid b e c.args.counts.now own) (i + x) (get_or own x 0 + 1)) (sym q) ∙ part_set c.args.counts.now own b e at x (get_or own x 0 + 1) in_part ∙ ap (put_mid b e c.args.counts.now) (sym w.own-is))
          (counting_has c.loop-x.invariant c.requires.within c.requires.is small c.requires.countable.aligned (subst (λ i. i + x < length (put_mid b e c.args.counts.now own)) q (part_past c.args.counts.now own b e at x in_part)) (w.if-has.ensures.yes refl) _
          (ap (λ v. v + 1) (sym (part_read c.args.counts.now own b e at x in_part) ∙ ap (λ i. get_or (put_mid b e c.args.counts.now own) (i + x) 0) q)))
      | else-has w ↦
          subst (λ l. Counting s.graph.now s.shared s.nodes c.args.sets.now c.args.n (put_mid b e c.args.counts.now l) (x + 1)) (sym (w.own-is ∙ set-get_or own x 0))
          (counting_not c.loop-x.invariant c.requires.within c.requires.is small (w.if-has.ensures.no refl))
    ]

pub returns : goal.returns
returns c =
    let r = part_room c.args.counts.now c.requires.countable.fine c.requires.countable.counts_long c.requires.within c.base-base.ensures in
    counting_all c.loop-x.invariant (omega (arith, part_long c.args.counts.now c.base-base.result c.args.system.shared r, c.loop-x-test.false, c.loop-x.auto.x-end))
