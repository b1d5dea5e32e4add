-- What one call writes, and then another: the rows stand one behind the other.
use Rattle.std.proofs.Common.{◌≡◌, ℕ, List, ◌++◌, ap, ◌∙◌, subst, append_assoc}
use Rattle.tree.specs.Adds.{Adds}

pub adds : (row before : List ℕ) {after : List ℕ} → after ≡ before ++ row → Adds row before after
adds row before e = record { is = e }

pub adds_both : {row row' u v w : List ℕ} → Adds row u v → Adds row' v w → Adds (row ++ row') u w
adds_both {row} {row'} {u} p q = record { is = q.is ∙ ap (λ x. x ++ row') p.is ∙ append_assoc u row row' }

pub adds_as : {row row' u v : List ℕ} → row ≡ row' → Adds row u v → Adds row' u v
adds_as {u = u} {v} e p = subst (λ r. Adds r u v) e p

-- a loop that has `left` left to write of `row`, where u was there before it and v is there now
pub record Writing (row left u v : List ℕ) : Type 0 where
  pub is : v ++ left ≡ u ++ row
