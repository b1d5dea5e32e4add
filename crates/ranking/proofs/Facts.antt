-- What is known stands truncated in the ranker, since it has more proofs than one; the part that has one proof comes
-- out of it.
use Rattle.std.proofs.Common.{◌≡◌, ◌≢◌, ℕ, zero, suc, ◌+◌, ◌*◌, ◌%◌, ◌<◌, ◌≤◌, ◌⊎◌, List, length, get_or, sym, subst, inl, inr, arith}
use Rattle.std.proofs.lemmas.Bool.{cases_eq}
use Rattle.std.proofs.Math.Logic.{∥∥₁_elim}
use denote.Struct.Props.{props}
use Rattle.saturation.specs.Bits.{Bit}
use Rattle.saturation.specs.System.{kind, first, proc, site_begin, site_end}
use Rattle.saturation.specs.declared.System.{System}
use Rattle.ranking.specs.declared.Procedures.{Procedures}
use Rattle.ranking.specs.Calls.{CallAt}
use Rattle.ranking.specs.Counting.{Countable, Counts, none, one, skip, Counted}
use Rattle.ranking.specs.Levels.{Known}

pub record Facts (s : System) (p : Procedures) (w c next : List ℕ) : Type 0 where
  pub countable : Countable s w c
  pub some : 0 < length p.bases.now
  pub begins : (f : ℕ) → f < length p.bases.now → (get_or p.bases.now f 0 + s.shared ≤ s.nodes) × (proc s.graph.now (get_or p.bases.now f 0) ≡ get_or p.bases.now f 0)
  pub owner : (n : ℕ) → n < s.nodes → ((f : ℕ) → f < length p.bases.now → get_or p.bases.now f 0 ≢ proc s.graph.now n) → ⊥
  pub apart : (f h : ℕ) → f < length p.bases.now → h < length p.bases.now → get_or p.bases.now f 0 ≡ get_or p.bases.now h 0 → f ≡ h
  pub sites : (i : ℕ) → i < length s.sites.now → (site_begin s.sites.now i < s.nodes) × (kind s.graph.now (site_begin s.sites.now i) ≡ 1) × (site_begin s.sites.now i % s.shared ≡ 0)
  pub all : (f n : ℕ) → f < length p.bases.now → n < s.nodes → kind s.graph.now n ≡ 1 → first s.graph.now n ≡ get_or p.bases.now f 0 →
      ((i : ℕ) → get_or p.starts.now f 0 ≤ i → i < get_or p.starts.now (f + 1) 0 → site_begin s.sites.now i ≤ n → n < site_end s.graph.now s.sites.now i → ⊥) → ⊥
  pub next_long : 2 * length p.bases.now ≤ length next

Facts-prop : {s : System} {p : Procedures} {w c next : List ℕ} → IsProp (Facts s p w c next)
Facts-prop = hlevel props

pub facts_of : {s : System} {p : Procedures} {w c next : List ℕ} → Known s p w c next → Facts s p w c next
facts_of k = record {
  countable = k.countable;
  some = k.grouped.some;
  begins = k.grouped.begins;
  owner = λ n h z. let r = k.grouped.owner n h in z r.0 r.1 r.2;
  apart = k.grouped.apart;
  sites = k.grouped.sites;
  all = λ f n hf hn kn e z. let r = k.grouped.all f n hf hn kn e in z r.0 r.1 r.2 r.3 r.4;
  next_long = k.next_long;
}

-- the procedure of a node, which is searched for
pub owner_of : {s : System} {p : Procedures} {w c next : List ℕ} → Facts s p w c next → (n : ℕ) → n < s.nodes → (f : ℕ) × (f < length p.bases.now) × (get_or p.bases.now f 0 ≡ proc s.graph.now n)
owner_of {s} {p} k n h = elim (go (length p.bases.now)) [ inl r ↦ r | inr z ↦ absurd (k.owner n h z) ]
  where
    go : (m : ℕ) → ((f : ℕ) × (f < m) × (get_or p.bases.now f 0 ≡ proc s.graph.now n)) ⊎ ((f : ℕ) → f < m → get_or p.bases.now f 0 ≢ proc s.graph.now n)
    go zero = inr (λ f l. absurd (omega arith))
    go (suc m) = elim (go m) [
      | inl r ↦ inl (r.0, omega (arith, r.1), r.2)
      | inr z ↦ elim (cases_eq (get_or p.bases.now m 0) (proc s.graph.now n)) [
        | inl e ↦ inl (m, omega arith, e)
        | inr e ↦ inr (λ f l. elim (cases_eq f m) [ inl q ↦ subst (λ i. get_or p.bases.now i 0 ≢ proc s.graph.now n) (sym q) e | inr q ↦ z f (omega arith) ])
      ]
    ]

pub facts : {s : System} {p : Procedures} {w c next : List ℕ} → ∥ Known s p w c next ∥₁ → Facts s p w c next
facts k = ∥∥₁_elim k Facts-prop facts_of

CallAt-prop : {g : List ℕ} {t : ℕ} {w : List ℕ} {b x n : ℕ} → IsProp (CallAt g t w b x n)
unfolding Bit
CallAt-prop = hlevel props

Counts-prop : {P : ℕ → Type 0} → ((n : ℕ) → IsProp (P n)) → {n c : ℕ} → IsProp (Counts P n c)
Counts-prop h none none = λ i. none
Counts-prop h (one {n = n} p a) (one q b) = λ i. one (h n p q i) (Counts-prop h a b i)
Counts-prop h (one p a) (skip q b) = absurd (q p)
Counts-prop h (skip p a) (one q b) = absurd (p q)
Counts-prop {P} h (skip {n = n} p a) (skip q b) = let none : IsProp (P n → ⊥) = hlevel in λ i. skip (none p q i) (Counts-prop h a b i)

pub counted_of : (g : List ℕ) (k t : ℕ) (w : List ℕ) (n : ℕ) (c : List ℕ) → ∥ Counted g k t w n c ∥₁ → Counted g k t w n c
counted_of g k t w n c q m x l b = ∥∥₁_elim q (Counts-prop (λ i. CallAt-prop)) (λ h. h m x l b)
