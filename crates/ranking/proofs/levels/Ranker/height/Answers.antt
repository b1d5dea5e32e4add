-- `height`: level after level; at the root's level its height is known, and with nothing of the next level there
-- is none.
use Rattle.std.proofs.Common.{◌≡◌, ℕ, ◌+◌, ◌<◌, length, get_or, sym, refl, ◌∙◌, subst, subst₂, add-zero, arith}
use Rattle.saturation.proofs.Marking.{total_le}
use Rattle.saturation.specs.declared.System.{System}
use Rattle.ranking.specs.declared.Procedures.{Procedures}
use Rattle.ranking.specs.Calls.{Path, Height}
use Rattle.ranking.specs.Levels.{Settles, OfLevel, ProcedureDone}
use Rattle.ranking.proofs.Facts.{facts, counted_of}
use Rattle.ranking.proofs.Settled.{known_still}
use Rattle.ranking.proofs.Climbing.{clear_off, first_level, endless, next_level, new_less}
use Rattle.ranking.proofs.Chains.{ranked, unranked}
use Rattle.ranking.proofs.levels.Ranker.height.Goals as goal
use Rattle.ranking.proofs.levels.Ranker.height.Goals.{After-settle_level}

pub loop-self-init : goal.loop-self-init
loop-self-init c =
    let r = c.args.self.now in
    record { system = refl; procedures = refl; level = first_level (facts r.known) r.sets.now r.counts.now (counted_of _ _ _ _ _ _ r.counted) c.requires.idle }

pub is_reached-requires : goal.is_reached-requires
is_reached-requires c =
    let k = facts c.args.self.now.known in
    let i = c.loop-self.invariant in
    rw (i.system, i.procedures) (k.some, k.countable.fine.some)

pub invariant_of-self : goal.invariant_of-self
invariant_of-self c =
    let a = c.loop-self.self in
    record {
      known = known_still _ _ _ a.known refl refl c.fill.ensures.len;
      counted = a.counted;
      levels = a.levels ∙ sym c.fill.ensures.len;
    }

pub overflow_add-height : goal.overflow_add-height
overflow_add-height c = omega (arith, c.loop-self.invariant.level.bound, total_le c.args.self.now.sets.now, c.requires.short)

-- the set of the next level was cleared
cleared : (c : After-settle_level) → (j : ℕ) → j < length c.fill.new.self → get_or c.fill.new.self j 0 ≡ 0
cleared c j h = c.fill.ensures.clones j 0 (omega (arith, c.fill.ensures.len)) refl

-- what settling the level left, with what was given at first
settled : (c : After-settle_level) →
    let r = c.args.self.now in
    let u = c.settle_level.new.self in
    let l = c.loop-self.self.level.now in
    Settles r.system r.procedures (OfLevel r.system r.procedures l) c.loop-self.self.sets.now c.fill.new.self u.sets.now u.next.now × ((f : ℕ) → f < length r.procedures.bases.now → ProcedureDone r.system r.procedures l u.sets.now f)
settled c =
    let i = c.loop-self.invariant in
    let u = c.settle_level.new.self in
    let l = c.loop-self.self.level.now in
    let e = c.settle_level.ensures in
    subst₂ (λ (s : System) (p : Procedures). Settles s p (OfLevel s p l) c.loop-self.self.sets.now c.fill.new.self u.sets.now u.next.now × ((f : ℕ) → f < length p.bases.now → ProcedureDone s p l u.sets.now f)) i.system i.procedures (e.settles.settles, e.gone)

pub loop-self-preserved : goal.loop-self-preserved
loop-self-preserved c =
    let r = c.args.self.now in
    let i = c.loop-self.invariant in
    let e = c.settle_level.ensures in
    let d = (goal.at.loop-self-preserved c).After-settle_level in
    let t = settled d in
    record {
      system = c.advance.ensures.same.0 ∙ e.settles.system ∙ i.system;
      procedures = c.advance.ensures.same.1 ∙ e.settles.procedures ∙ i.procedures;
      level = rw (c.advance.ensures.sets, c.advance.ensures.level) (next_level (facts r.known) r.sets.now i.level (c.loop-self-test.ensures.no refl) (clear_off _ (cleared d)) t.0 t.1 (new_less t.0 (cleared d) (c.if-is_stuck.ensures.no refl)));
    }

pub returns-then-is_stuck : goal.returns-then-is_stuck
returns-then-is_stuck c =
    let r = c.args.self.now in
    let k = facts r.known in
    let root = get_or r.procedures.bases.now 0 0 in
    let d = (goal.at.returns-then-is_stuck c).After-settle_level in
    let t = settled d in
    unranked k.countable.fine c.requires.starts r.sets.now c.requires.told (λ m.
    subst (λ j. Path r.system.graph.now r.system.shared r.system.nodes r.sets.now j m) (add-zero root)
    (endless k r.sets.now c.loop-self.invariant.level (c.loop-self-test.ensures.no refl) (clear_off _ (cleared d)) t.0 t.1 (clear_off _ (c.if-is_stuck.ensures.yes refl)) m))

pub returns : goal.returns
returns c =
    let r = c.args.self.now in
    let fine = (facts r.known).countable.fine in
    let i = c.loop-self.invariant in
    let root = get_or r.procedures.bases.now 0 0 in
    let h = i.level.heights (root + 0) (0, 0, (facts r.known).some, fine.some, c.loop-self-test.ensures.yes refl, refl) in
    ranked fine c.requires.starts r.sets.now c.requires.told c.loop-self.height (subst (λ e. Height r.system.graph.now r.system.shared r.system.nodes r.sets.now e c.loop-self.height) (add-zero root) h)
