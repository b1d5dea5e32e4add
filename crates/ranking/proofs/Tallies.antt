-- Counting: one more number, one fewer that has the property, none and some.
use Rattle.std.proofs.Common.{◌≡◌, ℕ, suc, ◌<◌, ◌≤◌, ◌≢◌, sym, refl, subst, inl, inr, arith}
use Rattle.std.proofs.lemmas.Bool.{cases_eq}
use Rattle.ranking.specs.Counting.{Counts, none, one, skip}

pub counts_le : {P : ℕ → Type 0} {n c : ℕ} → Counts P n c → c ≤ n
counts_le none = omega arith
counts_le (one h k) = omega (arith, counts_le k)
counts_le (skip h k) = omega (arith, counts_le k)

pub counts_zero : {P : ℕ → Type 0} {n c : ℕ} → Counts P n c → c ≡ 0 → (i : ℕ) → i < n → P i → ⊥
counts_zero none e i l p = omega arith
counts_zero (one h k) e i l p = omega arith
counts_zero {P} (skip {n = n} h k) e i l p = elim (cases_eq i n) [
  | inl q ↦ h (subst P q p)
  | inr q ↦ counts_zero k e i (omega arith) p
]

pub counts_some : {P : ℕ → Type 0} {n c : ℕ} → Counts P n c → 0 < c → (i : ℕ) × (i < n) × P i
counts_some none e = absurd (omega arith)
counts_some (one {n = n} h k) e = (n, omega arith, h)
counts_some (skip h k) e = let r = counts_some k e in (r.0, omega (arith, r.1), r.2)

pub counts_same : {P Q : ℕ → Type 0} {n c : ℕ} → ((i : ℕ) → i < n → P i → Q i) → ((i : ℕ) → i < n → Q i → P i) → Counts P n c → Counts Q n c
counts_same f h none = none
counts_same f h (one {n = n} p k) = one (f n (omega arith) p) (counts_same (λ i l. f i (omega arith)) (λ i l. h i (omega arith)) k)
counts_same f h (skip {n = n} p k) = skip (λ q. p (h n (omega arith) q)) (counts_same (λ i l. f i (omega arith)) (λ i l. h i (omega arith)) k)

-- at m the property is lost, and nowhere else
pub counts_less : {P Q : ℕ → Type 0} {n c : ℕ} (m : ℕ) → m < n → P m → (Q m → ⊥) → ((i : ℕ) → i ≢ m → P i → Q i) → ((i : ℕ) → i ≢ m → Q i → P i) → Counts P n c → (d : ℕ) × (c ≡ suc d) × Counts Q n d
counts_less m l p q f h none = absurd (omega arith)
counts_less {P} {Q} m l p q f h (one {n = n} {c = c} r k) = elim (cases_eq m n) [
  | inl e ↦ (c, refl, skip (subst (λ z. Q z → ⊥) e q) (counts_same (λ i b. f i (omega arith)) (λ i b. h i (omega arith)) k))
  | inr e ↦ (let s = counts_less m (omega arith) p q f h k in (c, refl, subst (Counts Q (suc n)) (sym s.1) (one (f n (λ z. e (sym z)) r) s.2)))
]
counts_less {P} {Q} m l p q f h (skip {n = n} {c = c} r k) = elim (cases_eq m n) [
  | inl e ↦ absurd (r (subst P e p))
  | inr e ↦ (let s = counts_less m (omega arith) p q f h k in (s.0, s.1, skip (λ z. r (h n (λ y. e (sym y)) z)) s.2))
]
