-- Bits of words, and a word that gets more bits.
use Rattle.std.proofs.Common.{◌≡◌, ℕ, ◌-◌, ◌/◌, ◌%◌, ◌^◌, ◌<◌, ◌≤◌, max, not, eqb, ◌≢◌, ◌⊎◌, List, length, get_or, set, refl, inl, inr, ⊎_elim, arith}
use lib.Bits.{bit_or, or_step, or_shr, or_add_and, and_le_r}
use Rattle.std.proofs.lemmas.List.Sums.{sum_by-set}
use Rattle.std.proofs.lemmas.List.{get_or-set_same, get_or-set_other, set-get_or}
use Rattle.std.proofs.lemmas.Bool.{cases_eq, not-true, not-false, eqb-true, eqb-false}
use Rattle.saturation.specs.Bits.{Bit, room, Grew, Merged}

pub or_odd : (a b : ℕ) → bit_or a b % 2 ≡ max (a % 2) (b % 2)
or_odd a b = omega (arith, or_step a b)

pub or_bit : (a b x : ℕ) → bit_or a b / 2 ^ x % 2 ≡ max (a / 2 ^ x % 2) (b / 2 ^ x % 2)
or_bit a b x = rw or_shr (or_odd (a / 2 ^ x) (b / 2 ^ x))

pub or_le : (a b : ℕ) → a ≤ bit_or a b
or_le a b = omega (arith, or_add_and a b, and_le_r a b)

-- a word that rises leaves less room
pub room_set : (t : List ℕ) (i w : ℕ) → i < length t → get_or t i 0 < w → get_or t i 0 < 2 ^ 32 → room (set t i w) < room t
unfolding room
room_set t i w h less fits = omega (arith, sum_by-set (λ v. 2 ^ 32 - v) t i w 0 h)

-- the word at i gets the bits of b
abbrev pub with_bits : List ℕ → ℕ → ℕ → List ℕ
with_bits t i b = set t i (bit_or (get_or t i 0) b)

module _ (t : List ℕ) (i b : ℕ) (h : i < length t) where
  pub bit_got : (y : ℕ) → b / 2 ^ y % 2 ≡ 1 → Bit (with_bits t i b) i y
  unfolding Bit
  bit_got y o = rw get_or-set_same (omega (arith, or_bit (get_or t i 0) b y))

  bit_here : (y : ℕ) → Bit t i y → Bit (with_bits t i b) i y
  unfolding Bit
  bit_here y o = rw get_or-set_same (omega (arith, or_bit (get_or t i 0) b y))

  bit_there : (j y : ℕ) → j ≢ i → Bit t j y → Bit (with_bits t i b) j y
  unfolding Bit
  bit_there j y n o = rw get_or-set_other o

  pub bit_kept : (j y : ℕ) → Bit t j y → Bit (with_bits t i b) j y
  bit_kept j y o = elim (cases_eq j i) [ inl e ↦ rw e (bit_here y (rw e at o)) | inr n ↦ bit_there j y n o ]

  only_here : (y : ℕ) → Bit (with_bits t i b) i y → Bit t i y ⊎ (b / 2 ^ y % 2 ≡ 1)
  unfolding Bit
  only_here y o = elim (cases_eq (b / 2 ^ y % 2) 1) [ inl e ↦ inr e | inr n ↦ inl (omega (arith, or_bit (get_or t i 0) b y, rw get_or-set_same at o)) ]

  only_there : (j y : ℕ) → j ≢ i → Bit (with_bits t i b) j y → Bit t j y
  unfolding Bit
  only_there j y n o = rw get_or-set_other at o

  pub bit_only : (j y : ℕ) → Bit (with_bits t i b) j y → Bit t j y ⊎ ((j ≡ i) × (b / 2 ^ y % 2 ≡ 1))
  bit_only j y o = elim (cases_eq j i) [ inl e ↦ rw e (⊎_elim inl (λ g. inr (refl, g)) (only_here y (rw e at o))) | inr n ↦ inl (only_there j y n o) ]

  pub merge_grew : get_or t i 0 < 2 ^ 32 → Grew t (with_bits t i b) (not (eqb (bit_or (get_or t i 0) b) (get_or t i 0)))
  merge_grew fits = record {
    kept = bit_kept;
    same = λ e. let s : bit_or (get_or t i 0) b ≡ get_or t i 0 = eqb-true _ _ (not-false _ e) in rw s (set-get_or t i 0);
    less = λ e. room_set t i (bit_or (get_or t i 0) b) h (let n : bit_or (get_or t i 0) b ≢ get_or t i 0 = eqb-false _ _ (not-true _ e) in omega (arith, or_le (get_or t i 0) b)) fits;
  }

  pub merge_merged : Merged t (with_bits t i b) i b
  merge_merged = record { got = bit_got; only = bit_only }
