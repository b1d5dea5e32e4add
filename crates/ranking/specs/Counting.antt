-- How many calls each entry has.
use Rattle.std.specs.Prelude.{ℕ, suc, ◌+◌, ◌*◌, ◌^◌, ◌<◌, ◌≤◌, List, length, slice_index}
use Rattle.saturation.specs.System.{proc, Fine}
use Rattle.saturation.specs.declared.System.{System}
use Rattle.ranking.specs.Calls.{CallAt, Aligned}

-- so many numbers below a bound have a property
pub data Counts (P : ℕ → Type 0) : ℕ → ℕ → Type 0 where
  none : Counts P 0 0
  one : {n c : ℕ} → P n → Counts P n c → Counts P (suc n) (suc c)
  skip : {n c : ℕ} → (P n → ⊥) → Counts P n c → Counts P (suc n) c

-- at each entry's number: how many calls it has at nodes below n
abbrev pub Counted : List ℕ → ℕ → ℕ → List ℕ → ℕ → List ℕ → Type 0
Counted g k t w n c = (m x : ℕ) → m < t → x < k → Counts (CallAt g t w (proc g m) x) n (slice_index c (proc g m + x))

-- the words say a system, with room for a count at each entry's number
pub record Countable (s : System) (w c : List ℕ) : Type 0 where
  pub fine : Fine s.graph.now s.shared s.nodes
  pub aligned : Aligned s.graph.now s.shared s.nodes
  pub small : s.nodes ≤ 2 ^ 26
  pub sets_long : 2 * s.nodes ≤ length w
  pub counts_long : s.nodes ≤ length c
