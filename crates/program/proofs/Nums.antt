-- Values as numbers and back: lists of bits, and what `|`, `&`, `!` and `>>` do to them.
use Rattle.std.proofs.Common.{◌≡◌, ℕ, zero, suc, ◌+◌, ◌-◌, ◌*◌, ◌/◌, ◌%◌, ◌^◌, ◌<◌, ◌≤◌, Bool, true, false, eqb, List, [], ◌∷◌, ◌++◌, length, sym, refl, ap, ◌∙◌, mod-eq_of_lt, suc-add, zero-add, div-one, arith, pow_mono}
use mathlib.Core.Option.{some}
use Rattle.program.specs.Program.{pick, nth, put, blank, or_f}
use native.Mathlib.Nat.{two-pow-succ}
use Rattle.std.proofs.lemmas.Nat.{mod_low, shr_high, shr-shr, pow_pos, pow_below, or_lt, and_le_l, one_shl, and_mask}
use lib.Bits.{bit_or, bit_and, or_step, and_step, or_zero_r}
use Rattle.program.specs.Table.{num}
use Rattle.program.specs.Values.{odd, bits}

digit : (r : ℕ) → r < 2 → pick (eqb r 1) 1 0 ≡ r
digit zero h = refl
digit (suc zero) h = refl
digit (suc (suc r)) h = absurd (omega arith)

pub odd_is : (v : ℕ) → pick (odd v) 1 0 ≡ v % 2
odd_is v = digit (v % 2) (omega arith)

pub num_bits : (n v : ℕ) → v < 2 ^ n → num (bits n v) ≡ v
num_bits zero v h = omega arith
num_bits (suc n) v h = omega (arith, num_bits n (v / 2) (omega arith), odd_is v)

pub digit_le : (b : Bool) → pick b 1 0 ≤ 1
digit_le true = omega arith
digit_le false = omega arith

pub odd_num : (b : Bool) (n : ℕ) → odd (pick b 1 0 + 2 * n) ≡ b
odd_num true n = let e : (1 + 2 * n) % 2 ≡ 1 = omega arith in rw e
odd_num false n = let e : (0 + 2 * n) % 2 ≡ 0 = omega arith in rw e

pub half_num : (b : Bool) (n : ℕ) → (pick b 1 0 + 2 * n) / 2 ≡ n
half_num b n = omega (arith, digit_le b)

pub bits_num : (l : List Bool) → bits (length l) (num l) ≡ l
bits_num [] = refl
bits_num (b ∷ l) = rw (odd_num b (num l), half_num b (num l), bits_num l)

pub half_shr : (v x : ℕ) → v / 2 / 2 ^ x ≡ v / 2 ^ suc x
half_shr v x = shr-shr v 1 x ∙ ap (λ z. v / 2 ^ z) (omega arith)

pub bits_append : (k o v : ℕ) → bits (k + o) v ≡ bits k v ++ bits o (v / 2 ^ k)
bits_append zero o v = rw (zero-add o, div-one v)
bits_append (suc k) o v = rw (suc-add k o) (ap (◌∷◌ (odd v)) (rw (← half_shr v k) (bits_append k o (v / 2))))

pub length_bits : (n v : ℕ) → length (bits n v) ≡ n
length_bits zero v = refl
length_bits (suc n) v = ap suc (length_bits n (v / 2))

pub num_lt : (l : List Bool) → num l < 2 ^ length l
num_lt [] = omega arith
num_lt (b ∷ l) = omega (arith, num_lt l, digit_le b, two-pow-succ (length l))

pub num_append : (xs ys : List Bool) → num (xs ++ ys) ≡ num xs + 2 ^ length xs * num ys
num_append [] ys = omega arith
num_append (b ∷ xs) ys = rw (two-pow-succ (length xs)) (omega (arith, num_append xs ys))

-- the shared variables are the low part and the own ones the high part
pub low_part : (xs ys : List Bool) → num (xs ++ ys) % 2 ^ length xs ≡ num xs
low_part xs ys = rw (num_append xs ys) (ap (λ z. z % 2 ^ length xs) (omega arith) ∙ mod_low (num ys) (length xs) (num xs) (num_lt xs))

pub high_part : (xs ys : List Bool) → num (xs ++ ys) / 2 ^ length xs ≡ num ys
high_part xs ys = rw (num_append xs ys) (ap (λ z. z / 2 ^ length xs) (omega arith) ∙ shr_high (num ys) (length xs) (num xs) (num_lt xs))

-- one bit
pub nth_bits : (n v x : ℕ) → x < n → nth (bits n v) x ≡ some (odd (v / 2 ^ x))
nth_bits zero v x h = absurd (omega arith)
nth_bits (suc n) v zero h = rw (div-one v)
nth_bits (suc n) v (suc x) h = nth_bits n (v / 2) x (omega arith) ∙ ap (λ z. some (odd z)) (half_shr v x)

pub length_put : (l : List Bool) (x : ℕ) (c : Bool) → length (put l x c) ≡ length l
length_put [] x c = refl
length_put (d ∷ l) zero c = refl
length_put (d ∷ l) (suc x) c = ap suc (length_put l x c)

-- what code does to a number
pub num_or : (l : List Bool) (x : ℕ) → x < length l → num (put l x true) ≡ bit_or (num l) (2 ^ x)
num_or [] x h = absurd (omega arith)
num_or (b ∷ l) zero h = omega (arith, or_step (pick b 1 0 + 2 * num l) 1, or_zero_r ((pick b 1 0 + 2 * num l) / 2), digit_le b)
num_or (b ∷ l) (suc x) h =
    let e : 2 ^ suc x / 2 ≡ 2 ^ x = omega arith in
    let z : 2 ^ suc x % 2 ≡ 0 = omega arith in
    rw (or_step (pick b 1 0 + 2 * num l) (2 ^ suc x), half_num b (num l), e, z) (omega (arith, num_or l x (omega arith), digit_le b))

pub num_and : (w : ℕ) (l : List Bool) (x : ℕ) → length l ≤ w → x < length l → num (put l x false) ≡ bit_and (num l) ((2 ^ w - 1) - 2 ^ x)
num_and w [] x k h = absurd (omega arith)
num_and zero (b ∷ l) x k h = absurd (omega arith)
num_and (suc w) (b ∷ l) zero k h =
    let p : 0 < 2 ^ w = pow_pos w in
    let e : ((2 ^ suc w - 1) - 1) / 2 ≡ 2 ^ w - 1 = omega arith in
    let z : ((2 ^ suc w - 1) - 1) % 2 ≡ 0 = omega arith in
    rw (and_step (pick b 1 0 + 2 * num l) ((2 ^ suc w - 1) - 1), half_num b (num l), e, z, and_mask (num l) w, mod-eq_of_lt {n = num l} {m = 2 ^ w} (omega (arith, num_lt l, pow_mono {i = length l} {j = w} (omega arith)))) (omega (arith, digit_le b))
num_and (suc w) (b ∷ l) (suc x) k h =
    let p : 2 ^ x < 2 ^ w = pow_below x w (omega arith) in
    let e : ((2 ^ suc w - 1) - 2 ^ suc x) / 2 ≡ (2 ^ w - 1) - 2 ^ x = omega arith in
    let z : ((2 ^ suc w - 1) - 2 ^ suc x) % 2 ≡ 1 = omega arith in
    rw (and_step (pick b 1 0 + 2 * num l) ((2 ^ suc w - 1) - 2 ^ suc x), half_num b (num l), e, z) (omega (arith, num_and w l x (omega arith) (omega arith), digit_le b))

-- back to lists
pub bits_of : (n : ℕ) (l : List Bool) → length l ≡ n → bits n (num l) ≡ l
bits_of n l e = rw (← e) (bits_num l)

pub num_inj : (xs ys : List Bool) → length xs ≡ length ys → num xs ≡ num ys → xs ≡ ys
num_inj xs ys e h = sym (bits_of (length ys) xs e) ∙ ap (bits (length ys)) h ∙ bits_num ys

pub num_blank : (n : ℕ) → num (blank n) ≡ 0
num_blank zero = refl
num_blank (suc n) = omega (arith, num_blank n)

pub length_blank : (n : ℕ) → length (blank n) ≡ n
length_blank zero = refl
length_blank (suc n) = ap suc (length_blank n)

-- v | (1 << x), v & !(1 << x) and (v >> x) & 1 as a u32 has them
module _ (n v x : ℕ) (small : v < 2 ^ n) (one : x < n) (fits : n ≤ 32) where
  pub num_yes : num (put (bits n v) x true) ≡ bit_or v ((1 * 2 ^ x) % 4294967296)
  num_yes = rw (one_shl x 32 (omega arith)) (rw (num_bits n v small) at (num_or (bits n v) x (rw (length_bits n v) one)))

  pub num_no : num (put (bits n v) x false) ≡ bit_and v (4294967295 - (1 * 2 ^ x) % 4294967296)
  num_no = rw (one_shl x 32 (omega arith)) (rw (num_bits n v small) at (num_and 32 (bits n v) x (rw (length_bits n v) fits) (rw (length_bits n v) one)))

  pub bits_yes : bits n (bit_or v ((1 * 2 ^ x) % 4294967296)) ≡ put (bits n v) x true
  bits_yes = rw (← num_yes) (bits_of n (put (bits n v) x true) (length_put (bits n v) x true ∙ length_bits n v))

  pub bits_no : bits n (bit_and v (4294967295 - (1 * 2 ^ x) % 4294967296)) ≡ put (bits n v) x false
  bits_no = rw (← num_no) (bits_of n (put (bits n v) x false) (length_put (bits n v) x false ∙ length_bits n v))

  pub yes_lt : bit_or v ((1 * 2 ^ x) % 4294967296) < 2 ^ n
  yes_lt = rw (one_shl x 32 (omega arith)) (or_lt n v (2 ^ x) small (pow_below x n one))

  pub no_lt : bit_and v (4294967295 - (1 * 2 ^ x) % 4294967296) < 2 ^ n
  no_lt = omega (arith, and_le_l v (4294967295 - (1 * 2 ^ x) % 4294967296))

pub bit_is : (n v x : ℕ) → x < n → or_f (nth (bits n v) x) ≡ eqb (bit_and (v / 2 ^ x) 1) 1
bit_is n v x one = rw (nth_bits n v x one, and_mask (v / 2 ^ x) 1)
