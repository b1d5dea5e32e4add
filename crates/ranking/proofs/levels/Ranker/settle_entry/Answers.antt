-- `settle_entry`: one call is removed, and counted.
use Rattle.std.proofs.Common.{◌≢◌, get_or, refl, sym, ◌∙◌, subst, arith}
use Rattle.ranking.proofs.Facts.{facts}
use Rattle.ranking.proofs.Settled.{counts_pos, still_counted, known_still, settles_last, settles_more}
use Rattle.ranking.proofs.levels.Ranker.settle_entry.Goals as goal

pub remove_call-left-requires-clause-some : goal.remove_call-left-requires-clause-some
remove_call-left-requires-clause-some c = rw c.base-base.ensures (counts_pos c.args.self.now c.requires.within c.requires.is c.requires.has)

pub invariant_of-self : goal.invariant_of-self
invariant_of-self c =
    let a = c.args.self.now in
    let e = c.remove_call-left.ensures in
    record {
      known = known_still _ _ _ a.known c.remove_call-left.auto.sets c.remove_call-left.auto.counts refl;
      counted = ∣ still_counted a c.requires.within c.requires.is c.requires.has e.removed c.base-base.ensures e.left e.counted ∣₁;
      levels = a.levels;
    }

pub at-requires : goal.at-requires
at-requires c = λ z. (facts c.args.self.now.known).owner c.args.n c.requires.within.0 (λ f l. subst (λ b. get_or c.args.self.now.procedures.bases.now f 0 ≢ b) c.base-base.ensures (z f l))

pub add-requires : goal.add-requires
add-requires c =
    let k = facts c.args.self.now.known in
    (omega (arith, k.next_long, c.at.ensures.within), omega (arith, k.countable.fine.few, c.requires.within.1))

pub invariant_of-self-then-left-eq0 : goal.invariant_of-self-then-left-eq0
invariant_of-self-then-left-eq0 c =
    let a = c.args.self.now in
    let e = c.remove_call-left.ensures in
    record {
      known = known_still _ _ _ a.known c.remove_call-left.auto.sets c.remove_call-left.auto.counts c.add.auto.table;
      counted = ∣ still_counted a c.requires.within c.requires.is c.requires.has e.removed c.base-base.ensures e.left e.counted ∣₁;
      levels = a.levels ∙ sym c.add.auto.table;
    }

pub returns-then-left-eq0-clause-settles : goal.returns-then-left-eq0-clause-settles
returns-then-left-eq0-clause-settles c =
    let e = c.remove_call-left.ensures in
    record {
      system = refl;
      procedures = refl;
      level = refl;
      settles = settles_last c.args.self.now c.requires.within c.requires.is c.requires.has e.removed c.base-base.ensures e.left c.if-left-eq0.true c.at.result c.at.ensures.within c.at.ensures.is c.add.ensures.added c.add.ensures.grew;
    }

pub returns-else-left-eq0-clause-settles : goal.returns-else-left-eq0-clause-settles
returns-else-left-eq0-clause-settles c =
    let e = c.remove_call-left.ensures in
    record {
      system = refl;
      procedures = refl;
      level = refl;
      settles = settles_more c.args.self.now c.requires.within c.requires.is c.requires.has e.removed c.base-base.ensures e.left c.if-left-eq0.false;
    }
