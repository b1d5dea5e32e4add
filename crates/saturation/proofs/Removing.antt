-- A bit that is set is cleared by `^`: the other bits stay, and the word falls.
use Rattle.std.proofs.Common.{◌≡◌, ℕ, zero, suc, ◌+◌, ◌*◌, ◌/◌, ◌%◌, ◌^◌, ◌<◌, ◌≢◌, ◌⊎◌, List, length, get_or, set, sym, refl, ap, ◌∙◌, subst, inl, inr, arith}
use lib.Bits.{bit_xor, bit_and, differ, xor_step, xor_shr, xor_add_and, and_shr, and_mask, and_le_r}
use Rattle.std.proofs.lemmas.List.Sums.{sum_by-set}
use Rattle.std.proofs.lemmas.Nat.{shr_split, shl-shr}
use Rattle.std.proofs.lemmas.List.{get_or-set_same, get_or-set_other}
use Rattle.std.proofs.lemmas.Bool.{cases_eq}
use Rattle.saturation.specs.Bits.{Bit, On}
use Rattle.saturation.specs.Marks.{total, Removed}
use Rattle.saturation.proofs.Nodes.{pow_bit, pow_odd, half}

differ_is : (a b : ℕ) → a < 2 → b < 2 → differ a b ≡ (a + b) % 2
differ_is zero b h l = omega arith
differ_is (suc zero) zero h l = refl
differ_is (suc zero) (suc zero) h l = refl
differ_is (suc zero) (suc (suc b)) h l = absurd (omega arith)
differ_is (suc (suc a)) b h l = absurd (omega arith)

xor_odd : (a b : ℕ) → bit_xor a b % 2 ≡ (a % 2 + b % 2) % 2
xor_odd a b = let d = differ_is (a % 2) (b % 2) (omega arith) (omega arith) in omega (arith, xor_step a b)

-- bit z of a word with bit y turned over
xor_bit : (a y z : ℕ) → bit_xor a (2 ^ y) / 2 ^ z % 2 ≡ (a / 2 ^ z % 2 + 2 ^ y / 2 ^ z % 2) % 2
xor_bit a y z = rw xor_shr (xor_odd (a / 2 ^ z) (2 ^ y / 2 ^ z))

-- the bit that is cleared is taken from the word
xor_sum : (a y : ℕ) → a / 2 ^ y % 2 ≡ 1 → bit_xor a (2 ^ y) + 2 ^ y ≡ a
xor_sum a y o =
    let p : 2 ^ y / 2 ^ y ≡ 1 = ap (λ n. n / 2 ^ y) (omega arith) ∙ shl-shr 1 y in
    let q : bit_and a (2 ^ y) / 2 ^ y ≡ 1 = rw (and_shr, p) (and_mask (a / 2 ^ y) 1 ∙ o) in
    omega (arith, xor_add_and a (2 ^ y), and_le_r a (2 ^ y), shr_split (bit_and a (2 ^ y)) y, ap (λ n. n * 2 ^ y) q)

module _ (t : List ℕ) (i y : ℕ) (h : i < length t) (small : y < 32) (o : Bit t i y) (fits : get_or t i 0 < 2 ^ 32) where
  abbrev flipped : List ℕ
  flipped = set t i (bit_xor (get_or t i 0) (2 ^ y))

  flip_gone : Bit flipped i y → ⊥
  unfolding Bit
  flip_gone b = omega (arith, rw get_or-set_same at b, xor_bit (get_or t i 0) y y, pow_bit y, o)

  flip_here : (z : ℕ) → z ≢ y → bit_xor (get_or t i 0) (2 ^ y) / 2 ^ z % 2 ≡ get_or t i 0 / 2 ^ z % 2
  flip_here z n = elim (cases_eq (2 ^ y / 2 ^ z % 2) 1) [
    | inl e ↦ absurd (n (pow_odd y z e))
    | inr e ↦ omega (arith, xor_bit (get_or t i 0) y z)
  ]

  flip_same : (j z : ℕ) → (j ≢ i) ⊎ (z ≢ y) → (Bit flipped j z → Bit t j z) × (Bit t j z → Bit flipped j z)
  unfolding Bit
  flip_same j z d = elim (cases_eq j i) [
    | inr n ↦ ((λ b. rw get_or-set_other at b), (λ b. rw get_or-set_other b))
    | inl e ↦ elim d [
      | inl n ↦ absurd (n e)
      | inr n ↦ rw e ((λ b. sym (flip_here z n) ∙ rw get_or-set_same at b), (λ b. rw get_or-set_same (flip_here z n ∙ b)))
    ]
  ]

  flip_less : total flipped < total t
  unfolding total Bit
  flip_less = omega (arith, sum_by-set (λ v. v % 2 ^ 32) t i (bit_xor (get_or t i 0) (2 ^ y)) 0 h, xor_sum (get_or t i 0) y o)

pub removed : (t : List ℕ) (n x v : ℕ) → x < 64 → 2 * n + 1 < length t → On t n x → get_or t (2 * n + x / 32) 0 < 2 ^ 32 → v ≡ 2 ^ (x % 32) → Removed t (set t (2 * n + x / 32) (bit_xor (get_or t (2 * n + x / 32) 0) v)) n x
removed t n x v b long o fits e =
    let i = 2 * n + x / 32 in
    let y = x % 32 in
    let l : i < length t = omega (arith, half x b) in
    let s : y < 32 = omega arith in
    subst (λ z. Removed t (set t i (bit_xor (get_or t i 0) z)) n x) (sym e) (record {
      gone = flip_gone t i y l s o fits;
      only = λ m z k. elim (cases_eq (2 * m + z / 32) i) [
        | inr d ↦ (flip_same t i y l s o fits _ _ (inl d)).0 k
        | inl q ↦ elim (cases_eq (z % 32) y) [
          | inr d ↦ (flip_same t i y l s o fits _ _ (inr d)).0 k
          | inl r ↦ absurd (flip_gone t i y l s o fits (subst (λ c. Bit (flipped t i y l s o fits) i c) r (subst (λ c. Bit (flipped t i y l s o fits) c (z % 32)) q k)))
        ]
      ];
      kept = λ m z h k. elim (cases_eq (2 * m + z / 32) i) [
        | inr d ↦ inl ((flip_same t i y l s o fits _ _ (inl d)).1 k)
        | inl q ↦ elim (cases_eq (z % 32) y) [
          | inr d ↦ inl ((flip_same t i y l s o fits _ _ (inr d)).1 k)
          | inl r ↦ inr (omega (arith, half x b, half z h), omega (arith, half x b, half z h))
        ]
      ];
      less = flip_less t i y l s o fits;
    })
