-- `advance`: the two sets are as long as each other.
use Rattle.std.proofs.Common.{List, ℕ, length, refl, sym, ap, ◌∙◌}
use denote.MutBor.{MutBor}
use Rattle.ranking.proofs.Settled.{known_still}
use Rattle.ranking.proofs.levels.Ranker.advance.Goals as goal

pub invariant_of-self : goal.invariant_of-self
invariant_of-self c =
    let e = c.swap.ensures in
    let r = c.args.self.now in
    let size : MutBor (List ℕ) → ℕ = λ m. length m.now in
    record {
      known = known_still _ _ _ r.known refl refl (ap size e.y_after ∙ r.levels);
      counted = r.counted;
      levels = ap size e.x_after ∙ sym r.levels ∙ sym (ap size e.y_after);
    }
