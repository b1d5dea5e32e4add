-- Values of variables as the low bits of a number, and expressions evaluated where they stand.
use Rattle.std.specs.Prelude.{◌≡◌, ℕ, zero, suc, ◌/◌, ◌%◌, ◌^◌, ◌<◌, ◌≤◌, Bool, List, [], ◌∷◌, ◌==◌}
use Rattle.program.specs.declared.expressions.Valued.{Valued}
use Rattle.program.specs.Program.{nth, put, or_f, E, value}
use Rattle.program.specs.Rows.{row_e, OkE}
use Rattle.program.specs.Reading.{Stands, Got}

-- the lowest bit of a number
abbrev pub odd : ℕ → Bool
odd v = v % 2 == 1

-- the low n bits of a number, the lowest first
abbrev pub bits : ℕ → ℕ → List Bool
bits zero v = []
bits (suc n) v = odd v ∷ bits n (v / 2)

-- an expression over n variables stands at `at`
abbrev pub Has : ℕ → List ℕ → ℕ → Type 0
Has n s at = (end : ℕ) × Got row_e (OkE n) s at end

-- r is the value, and the end, of the expression that stands at `at`, if its variables are the low
-- bits of v
abbrev pub Evals : List ℕ → ℕ → ℕ → Valued → Type 0
Evals s at v r = (n : ℕ) (e : E) (end : ℕ) → Stands s at end (row_e e) → OkE n e → (r.holds ≡ value (bits n v) e) × (r.end ≡ end)

-- r is v with variable x become b, in values of any n variables
abbrev pub Puts : ℕ → ℕ → Bool → ℕ → Type 0
Puts v x b r = (n : ℕ) → x < n → n ≤ 32 → v < 2 ^ n → (r < 2 ^ n) × (bits n r ≡ put (bits n v) x b)

-- b is variable x of v, in values of any n variables
abbrev pub Tests : ℕ → ℕ → Bool → Type 0
Tests v x b = (n : ℕ) → x < n → n ≤ 32 → b ≡ or_f (nth (bits n v) x)
