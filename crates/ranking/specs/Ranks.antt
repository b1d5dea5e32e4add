-- What ranking promises.
use Rattle.std.specs.Prelude.{ℕ, ◌≤◌, List, Some, None, Option}
use Rattle.pushdown.specs.System.{Chain}
use Rattle.saturation.specs.System.{words}

-- the most calls that can stand one within another from the root on; or any number can
abbrev pub Ranked : List ℕ → ℕ → ℕ → Option ℕ → Type 0
Ranked g k root (Some d) = Chain (words g k) root d × ((m : ℕ) → Chain (words g k) root m → m ≤ d)
Ranked g k root None = (d : ℕ) → Chain (words g k) root d
