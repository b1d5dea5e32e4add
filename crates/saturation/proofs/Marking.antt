-- Marks: set, and taken away.
use Rattle.std.proofs.Common.{◌≡◌, ℕ, suc, ◌+◌, ◌-◌, ◌*◌, ◌/◌, ◌%◌, ◌^◌, ◌<◌, ◌≤◌, true, ◌≢◌, ◌⊎◌, List, [], ◌∷◌, length, get_or, set, sym, refl, ap, ◌∙◌, subst, inl, inr, pow-suc, arith}
use native.Mathlib.Nat.{add-mul-div_right}
use lib.Count.{count_leading_zeros}
use Rattle.std.proofs.lemmas.List.Sums.{sum_by-set, sum_by-cons}
use Rattle.std.proofs.lemmas.List.{get_or-set_same, get_or-set_other}
use Rattle.std.proofs.lemmas.Bool.{cases_eq, cases_lt, cases_order, true≢false}
use Rattle.std.proofs.lemmas.Nat.{pow_pos, pow-add, pow_below, div_below, one_shl, leading_top}
use Rattle.saturation.specs.Bits.{Bit, Merged}
use Rattle.saturation.specs.Marks.{At, Levels, SameSize, More, Set, total, Marked, Taken}
use Rattle.saturation.proofs.Nodes.{pow_bit, pow_odd}

pub same_size : {m l u : Levels} → SameSize m l → SameSize l u → SameSize m u
same_size p q = record { nodes = q.nodes ∙ p.nodes; words = q.words ∙ p.words }

pub more_none : (m : Levels) → More m m
more_none m = record { stay = λ j o. o; words = λ j o. o; summary = λ c o. o; size = record { nodes = refl; words = refl } }

pub more_both : {m l u : Levels} → More m l → More l u → More m u
more_both p q = record { stay = λ j o. q.stay j (p.stay j o); words = λ j o. q.words j (p.words j o); summary = λ c o. q.summary c (p.summary c o); size = same_size p.size q.size }

-- one mark
module _ (n : ℕ) {t u : List ℕ} (g : Merged t u (n / 32) ((1 * 2 ^ (31 - n % 32)) % 2 ^ 32)) where
  one : Merged t u (n / 32) (2 ^ (31 - n % 32))
  one = subst (λ w. Merged t u (n / 32) w) (one_shl (31 - n % 32) 32 (omega arith)) g

  set_only : (j : ℕ) → At u j → At t j ⊎ (j ≡ n)
  set_only j o = elim (one.only (j / 32) (31 - j % 32) o) [
    | inl p ↦ inl p
    | inr p ↦ inr (omega (arith, pow_odd (31 - n % 32) (31 - j % 32) p.1))
  ]

  pub set_set : ((i y : ℕ) → Bit t i y → Bit u i y) → Set t u n
  set_set k = record { got = one.got (31 - n % 32) (pow_bit (31 - n % 32)); kept = λ j. k _ _; only = set_only }

-- a node and its word
pub mark_marked : (n : ℕ) {a b c d : List ℕ} → Set a b n → Set c d (n / 32) → length b ≡ length a → length d ≡ length c → Marked (record { nodes = a; words = c }) (record { nodes = b; words = d }) n true
mark_marked n {d = d} s t e f = record {
  kept = record {
    stay = s.kept;
    words = t.kept;
    summary = λ c p j ne o. elim (s.only j o) [ inl q ↦ t.kept _ (p j ne q) | inr q ↦ subst (λ i. At d (i / 32)) (sym q) t.got ];
    size = record { nodes = e; words = f };
  };
  got = λ _. s.got;
  same = λ e. absurd (true≢false e);
}

-- the top bit of a word
module _ (w j : ℕ) (low : 2 ^ j ≤ w) (high : w < 2 ^ suc j) where
  even : (y : ℕ) → y < j → w / 2 ^ y ≡ (w - 2 ^ j) / 2 ^ y + 2 ^ (j - y - 1) * 2
  even y h =
      let e : j ≡ (j - y - 1) + 1 + y = omega arith in
      let p : 2 ^ j ≡ 2 ^ (j - y - 1) * 2 * 2 ^ y = ap (λ n. 2 ^ n) e ∙ pow-add 2 (j - y - 1 + 1) y ∙ ap (λ n. n * 2 ^ y) (pow-add 2 (j - y - 1) 1) in
      let s : w ≡ (w - 2 ^ j) + 2 ^ (j - y - 1) * 2 * 2 ^ y = omega (arith, p) in
      ap (λ n. n / 2 ^ y) s ∙ add-mul-div_right (w - 2 ^ j) (2 ^ (j - y - 1) * 2) (pow_pos y)

  pub top_other : (y : ℕ) → y ≢ j → w / 2 ^ y % 2 ≡ 1 → (w - 2 ^ j) / 2 ^ y % 2 ≡ 1
  top_other y n o = elim (cases_order y j) [
    | inl e ↦ absurd (n e)
    | inr (inl l) ↦ omega (arith, even y l)
    | inr (inr l) ↦ absurd (omega (arith, div_below w (2 ^ y) 1 (pow_pos y) (elim (cases_eq y (suc j)) [ inl e ↦ rw e (omega arith) | inr d ↦ omega (arith, pow_below (suc j) y (omega arith)) ])))
  ]

  pub top_only_from : (y : ℕ) → (w - 2 ^ j) / 2 ^ y % 2 ≡ 1 → w / 2 ^ y % 2 ≡ 1
  top_only_from y o = elim (cases_lt y j) [
    | inl l ↦ omega (arith, even y l)
    | inr l ↦ absurd (omega (arith, div_below (w - 2 ^ j) (2 ^ y) 1 (pow_pos y) (elim (cases_eq y j) [ inl e ↦ rw e (omega (arith, pow-suc 2 j)) | inr d ↦ omega (arith, pow-suc 2 j, pow_below j y (omega arith)) ])))
  ]

pub total_le : (m : List ℕ) → total m ≤ 2 ^ 32 * length m
unfolding total
total_le [] = omega arith
total_le (x ∷ m) = omega (arith, sum_by-cons (λ w. w % 2 ^ 32) x m, total_le m)

pub top_shift : (w : ℕ) → 0 < w → w < 2 ^ 32 → (j : ℕ) × (count_leading_zeros 32 w + suc j ≡ 32) × (2 ^ j ≤ w) × (w < 2 ^ suc j) × ((1 * 2 ^ (31 - count_leading_zeros 32 w)) % 2 ^ 32 ≡ 2 ^ j)
top_shift w p h = let l = leading_top 32 w p h in let e : 31 - count_leading_zeros 32 w ≡ l.0 = omega (arith, l.1) in
    (l.0, l.1, l.2, l.3, one_shl (31 - count_leading_zeros 32 w) 32 (omega arith) ∙ ap (λ n. 2 ^ n) e)

module _ (m : List ℕ) (i : ℕ) (h : i < length m) (p : 0 < get_or m i 0) (f : get_or m i 0 < 2 ^ 32) where
  taken_there : (a y w : ℕ) → a ≢ i → Bit m a y → Bit (set m i w) a y
  unfolding Bit
  taken_there a y w n o = rw get_or-set_other o

  taken_here : (y w : ℕ) → w / 2 ^ y % 2 ≡ 1 → Bit (set m i w) i y
  unfolding Bit
  taken_here y w o = rw get_or-set_same o

  taken_less : (w : ℕ) → w < get_or m i 0 → total (set m i w) < total m
  unfolding total
  taken_less w l = omega (arith, sum_by-set (λ v. v % 2 ^ 32) m i w 0 h)

  bit_of : (y : ℕ) → Bit m i y → get_or m i 0 / 2 ^ y % 2 ≡ 1
  unfolding Bit
  bit_of y o = o

  of_bit : (y : ℕ) → get_or m i 0 / 2 ^ y % 2 ≡ 1 → Bit m i y
  unfolding Bit
  of_bit y o = o

  from_there : (a y w : ℕ) → a ≢ i → Bit (set m i w) a y → Bit m a y
  unfolding Bit
  from_there a y w n o = rw get_or-set_other at o

  from_here : (y w : ℕ) → Bit (set m i w) i y → w / 2 ^ y % 2 ≡ 1
  unfolding Bit
  from_here y w o = rw get_or-set_same at o

  take_of : (j z v : ℕ) → z + suc j ≡ 32 → 2 ^ j ≤ get_or m i 0 → get_or m i 0 < 2 ^ suc j → v ≡ 2 ^ j → Taken m (set m i (get_or m i 0 - v)) i (32 * i + z)
  take_of j z v e lo hi s = record {
    is = omega arith;
    kept = λ a n o. elim (cases_eq (a / 32) i) [
      | inr d ↦ taken_there (a / 32) (31 - a % 32) _ d o
      | inl q ↦ simp (q, s) (taken_here (31 - a % 32) (get_or m i 0 - 2 ^ j) (top_other (get_or m i 0) j lo hi (31 - a % 32) (λ y. n (omega arith)) (bit_of (31 - a % 32) (subst (λ b. Bit m b (31 - a % 32)) q o))))
    ];
    only = λ a o. elim (cases_eq (a / 32) i) [
      | inr d ↦ from_there (a / 32) (31 - a % 32) _ d o
      | inl q ↦ simp q (of_bit (31 - a % 32) (top_only_from (get_or m i 0) j lo hi (31 - a % 32) (from_here (31 - a % 32) (get_or m i 0 - 2 ^ j) (subst (λ b. Bit (set m i (get_or m i 0 - 2 ^ j)) b (31 - a % 32)) q (simp s at o)))))
    ];
    less = taken_less _ (omega (arith, pow_pos j));
  }

  pub take_taken : Taken m (set m i (get_or m i 0 - (1 * 2 ^ (31 - count_leading_zeros 32 (get_or m i 0))) % 2 ^ 32)) i (32 * i + count_leading_zeros 32 (get_or m i 0))
  take_taken = let s = top_shift (get_or m i 0) p f in take_of s.0 _ _ s.1 s.2 s.3 s.4
