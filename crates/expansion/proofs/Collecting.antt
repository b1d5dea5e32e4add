-- Lists of call places grow: what is listed stays.
use Rattle.std.proofs.Common.{ℕ, ◌⊎◌, List, sym, ◌∙◌, subst, inl, inr, arith}
use Rattle.std.proofs.lemmas.Bool.{cases_lt}
use Rattle.expansion.specs.declared.sites.Sites.{Sites}
use Rattle.expansion.specs.Listing.{Listed, Adds}

pub listed_add : {P Q R : ℕ → Type 0} {w w1 w2 : List ℕ} {k k1 k2 : ℕ} → Listed P w w1 k k1 → Listed Q w1 w2 k1 k2 → ((n : ℕ) → P n → R n) → ((n : ℕ) → Q n → R n) → ((n : ℕ) → R n → P n ⊎ Q n) → Listed R w w2 k k2
listed_add {P} {Q} {R} {w} {w1} {w2} {k} {k1} {k2} a b f h back = record {
  kept = λ s l. b.kept s (omega (arith, a.up)) ∙ a.kept s l;
  up = omega (arith, a.up, b.up);
  each = λ s l m. elim (cases_lt s k1) [ inl x ↦ f _ (subst P (sym (b.kept s x)) (a.each s l x)) | inr x ↦ h _ (b.each s x m) ];
  all = λ n r. elim (back n r) [
    | inl x ↦ (let y = a.all n x in (y.0, y.1, omega (arith, y.2, b.up), b.kept y.0 y.2 ∙ y.3))
    | inr x ↦ (let y = b.all n x in (y.0, omega (arith, y.1, a.up), y.2, y.3))
  ];
}

pub listed_same : {P R : ℕ → Type 0} {w w1 : List ℕ} {k k1 : ℕ} → Listed P w w1 k k1 → ((n : ℕ) → P n → R n) → ((n : ℕ) → R n → P n) → Listed R w w1 k k1
listed_same a f back = record { kept = a.kept; up = a.up; each = λ s l m. f _ (a.each s l m); all = λ n r. a.all n (back n r) }

-- the same of the words that the list is in
pub adds_add : {P Q R : ℕ → Type 0} {x y z : Sites} → Adds P x y → Adds Q y z → ((n : ℕ) → P n → R n) → ((n : ℕ) → Q n → R n) → ((n : ℕ) → R n → P n ⊎ Q n) → Adds R x z
adds_add a b f h back = record { same = b.same ∙ a.same; long = b.long ∙ a.long; found = listed_add a.found b.found f h back }

pub adds_same : {P R : ℕ → Type 0} {x y : Sites} → Adds P x y → ((n : ℕ) → P n → R n) → ((n : ℕ) → R n → P n) → Adds R x y
adds_same a f back = record { same = a.same; long = a.long; found = listed_same a.found f back }
