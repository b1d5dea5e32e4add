-- The calls of a procedure: place after place, and node after node in each.
use Rattle.std.proofs.Common.{◌≡◌, ℕ, ◌+◌, ◌-◌, ◌/◌, ◌%◌, ◌^◌, ◌<◌, ◌≤◌, true, ◌⊎◌, List, get_or, sym, ap, ◌∙◌, subst, inl, inr, add-mul, arith, below_more}
use Rattle.std.proofs.lemmas.Bool.{true≢false, cases_eq, cases_lt}
use native.Mathlib.Nat.{add-mod_right}
use Rattle.std.proofs.lemmas.Nat.{mul-le, div-add-mod'}
use Rattle.saturation.specs.System.{kind, first, second, proc, Fine, site_begin, site_end}
use Rattle.saturation.specs.Engine.{Listed}
use Rattle.saturation.specs.Bits.{Bit}
use Rattle.saturation.specs.Marks.{At, Levels, More, In, Empty, Revisited, PlaceRevisited}
use Rattle.saturation.specs.Visits.{Callers}
use Rattle.saturation.proofs.Marking.{more_none, more_both}
use Rattle.saturation.proofs.Complete.{mod_from, below}

-- the places from a to i have been passed
pub record SitesPassed (g c : List ℕ) (k x : ℕ) (w : List ℕ) (m l : Levels) (a i : ℕ) : Type 0 where
  pub kept : More m l
  pub got : (s : ℕ) → s < i → a ≤ s → (j : ℕ) → site_begin c s ≤ j → j < site_end g c s → j % k ≡ x → In l j ⊎ Empty w j

pub sites_more : {g c : List ℕ} {k x : ℕ} {w : List ℕ} {m l o : Levels} {a : ℕ} (i : ℕ) → SitesPassed g c k x w m l a i → PlaceRevisited k w l o (site_begin c i) (site_end g c i) x → SitesPassed g c k x w m o a (i + 1)
sites_more {g} {c} {k} {x} {w} {m} {l} {o} {a} i p r = record {
  kept = more_both p.kept r.kept;
  got = below_more (λ s. a ≤ s → (j : ℕ) → site_begin c s ≤ j → j < site_end g c s → j % k ≡ x → In o j ⊎ Empty w j) i
      (λ s h z j b d e. elim (p.got s h z j b d e) [ inl q ↦ inl (r.kept.stay j q) | inr q ↦ inr q ]) (λ z. r.got);
}

-- two entries that are the same
pub same_entry : (k a b x y : ℕ) → a % k ≡ 0 → b % k ≡ 0 → x < k → y < k → a + x ≡ b + y → (a ≡ b) × (x ≡ y)
same_entry k a b x y p q h l e = let z : x ≡ y = sym (mod_from a x k p h) ∙ ap (λ n. n % k) e ∙ mod_from b y k q l in (omega arith, z)

-- a number is marked or not
marked_or : (t : List ℕ) (n : ℕ) → At t n ⊎ (At t n → ⊥)
unfolding Bit
marked_or t n = cases_eq (get_or t (n / 32) 0 / 2 ^ (31 - n % 32) % 2) 1

pub sites_all : {g : List ℕ} {k t : ℕ} {c w : List ℕ} {m l : Levels} (q x i : ℕ) → q < t → kind g q ≡ 2 → x < k → second g q ≤ i → Fine g k t → Listed g k t c → SitesPassed g c k x w m l (first g q) i → Callers g k t (proc g q + x) w m l true
sites_all {g} {k} {t} {w = w} {l = l} q x i h z b end fine listed p = record {
  kept = p.kept;
  got = λ _ n d y a. let r = same_entry k (first g n) (proc g q) (n % k) x (fine.callees n d y).0 (listed.lists q h z).0 (below fine n) b a in
      elim (marked_or l.nodes n) [
        | inl o ↦ inl o
        | inr f ↦ inr (λ v u e. listed.all q n h z d y r.0 (λ s b1 b2 b3 b4. elim (p.got s (omega arith) b1 n b3 b4 r.1) [ inl o ↦ f o | inr o ↦ o v u e ]))
      ];
  same = λ e. absurd (true≢false e);
}

-- two numbers less than k apart, with the same rest
pub close : (k n j : ℕ) → n ≤ j → j < n + k → j % k ≡ n % k → j ≡ n
close k n j a b e = elim (cases_lt (n / k) (j / k)) [
  | inl h ↦ absurd (omega (arith, div-add-mod' n k, div-add-mod' j k, mul-le (n / k + 1) k (j / k) k (omega arith) (omega arith), add-mul (n / k) 1 k))
  | inr h ↦ omega (arith, div-add-mod' n k, div-add-mod' j k, mul-le (j / k) k (n / k) k h (omega arith))
]

-- the nodes of a place below n have been passed
pub record PlacePassed (k : ℕ) (w : List ℕ) (m l : Levels) (from x n : ℕ) : Type 0 where
  pub rest : n % k ≡ x
  pub kept : More m l
  pub got : (j : ℕ) → from ≤ j → j < n → j % k ≡ x → In l j ⊎ Empty w j

pub place_none : (k : ℕ) (w : List ℕ) (m : Levels) (from x : ℕ) → x < k → from % k ≡ 0 → PlacePassed k w m m from x (from + x)
place_none k w m from x h z = record {
  rest = mod_from from x k z h;
  kept = more_none m;
  got = λ j a b e. let q : j ≡ from + x = sym (close k j (from + x) (omega arith) (omega arith) (mod_from from x k z h ∙ sym e)) in absurd (omega arith);
}

pub place_more : {k : ℕ} {w : List ℕ} {m l o : Levels} {from x : ℕ} (n : ℕ) → 0 < k → PlacePassed k w m l from x n → Revisited w l o n → PlacePassed k w m o from x (n + k)
place_more {k} {w} {o = o} n h p r = record {
  rest = add-mod_right n k ∙ p.rest;
  kept = more_both p.kept r.kept;
  got = λ j a b e. elim (cases_lt j n) [
    | inl l ↦ elim (p.got j a l e) [ inl q ↦ inl (r.kept.stay j q) | inr q ↦ inr q ]
    | inr l ↦ let q : j ≡ n = close k n j l b (e ∙ sym p.rest) in subst (λ i. In o i ⊎ Empty w i) (sym q) r.got
  ];
}
