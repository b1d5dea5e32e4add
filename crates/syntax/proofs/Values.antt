-- The value of a word, digit by digit. Assumes nothing.
use Rattle.std.proofs.Common.{◌≡◌, ℕ, ◌+◌, ◌-◌, ◌*◌, ◌<◌, ◌≤◌, min, List, [], ◌∷◌, fold, refl, ap, ◌∙◌, arith}
use Rattle.std.specs.List.{AllByRecursion}
use Rattle.syntax.specs.Decimal.{Number}

abbrev pub Digit : ℕ → Type 0
Digit b = (48 ≤ b) × (b ≤ 57)

abbrev pub val : List ℕ → ℕ
val w = fold (λ v b. 10 * v + (b - 48)) 0 w

-- the value after v and these digits, where it stops at the first number that is no byte
abbrev capped_on : ℕ → List ℕ → ℕ
capped_on v w = fold (λ v b. min (10 * v + (b - 48)) 256) v w

abbrev pub capped : List ℕ → ℕ
capped w = capped_on 0 w

capped_from : (v : ℕ) (w : List ℕ) → capped_on (min v 256) w ≡ min (fold (λ v b. 10 * v + (b - 48)) v w) 256
capped_from v [] = refl
capped_from v (b ∷ w) =
    let more : min (10 * min v 256 + (b - 48)) 256 ≡ min (10 * v + (b - 48)) 256 = omega arith in
    ap (λ a. capped_on a w) more ∙ capped_from (10 * v + (b - 48)) w

pub too_large : (w : List ℕ) (v : ℕ) → v ≡ capped w → 256 ≤ v → (n : ℕ) → Number w n → ⊥
too_large w v e l n is = let value = is.value in let fits = is.fits in omega (arith, capped_from 0 w)

pub number_is : (w : List ℕ) (v : ℕ) → AllByRecursion Digit w → v ≡ capped w → v < 256 → Number w v
number_is w v d e l = record { digits = d; value = omega (arith, capped_from 0 w); fits = omega arith }
