-- `first_level`: procedure after procedure.
use Rattle.std.proofs.Common.{◌≡◌, ◌+◌, ◌-◌, length, get_or, take, drop, refl, subst, arith}
use Rattle.ranking.specs.Levels.{IdleAdded}
use Rattle.ranking.proofs.Climbing.{clear_off}
use Rattle.ranking.proofs.Idling.{idle_first, part_reads, part_long, idle_next}
use Rattle.ranking.proofs.first.first_level.Goals as goal

pub loop-f-init : goal.loop-f-init
loop-f-init c = idle_first _ _ _ _ (clear_off _ (λ i h. c.fill.ensures.clones i 0 (omega (arith, c.fill.ensures.len)) refl))

pub loop-f-preserved : goal.loop-f-preserved
loop-f-preserved c =
    let k = c.args.system.shared in
    let b = get_or c.args.procedures.bases.now c.loop-f.f 0 in
    let n = c.requires.1 in
    let long : length (take (b + k - b) (drop b c.args.counts.now)) ≡ k = part_long c.args.counts.now b k (omega (arith, (n.grouped.begins c.loop-f.f c.loop-f-test.true).0, n.countable.counts_long)) in
    idle_next n.countable.fine.few c.loop-f.invariant _ (part_reads c.args.counts.now b k) (subst (λ z. IdleAdded z (take (b + k - b) (drop b c.args.counts.now)) c.loop-f.f c.loop-f.level c.add_idle.new.level) long c.add_idle.ensures)
