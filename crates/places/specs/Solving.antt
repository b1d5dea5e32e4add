-- What is left in the work memory.
use Rattle.std.specs.Prelude.{◌≡◌, ℕ, ◌+◌, ◌<◌, ◌≤◌, ◌⊎◌, ◌↔◌, List, length, slice_index, slice_index_or}
use Rattle.pushdown.specs.System as pushdown
use Rattle.saturation.specs.Bits.{On}
use Rattle.program.specs.declared.programs.Header.{Header}
use Rattle.program.specs.Program.{Prog}
use Rattle.program.specs.Table.{total}
use Rattle.program.specs.Numbers.{numbered}
use Rattle.expansion.specs.Programs.{Headed}

-- some entry is in the set of node n
abbrev pub Entries : List ℕ → ℕ → Type 0
Entries w n = (x : ℕ) × (x < 64) × On w n x

-- a node has entries exactly if its number is reached
abbrev pub Solved : List ℕ → Header → List ℕ → Type 0
Solved s h w = (g : Prog) → Headed s h g → (n : ℕ) → n < total g.shared g.procs → Entries w n ↔ ((bs : List ℕ) × pushdown.Reached (numbered g) 0 n bs)

-- a byte says whether node n has entries
abbrev pub Tells : List ℕ → ℕ → ℕ → Type 0
Tells w n b = ((b ≡ 1) × Entries w n) ⊎ ((b ≡ 0) × (Entries w n → ⊥))

-- the first c bytes of t do, for the nodes from a number on
abbrev pub Written : List ℕ → ℕ → List ℕ → ℕ → Type 0
Written w from t c = (i : ℕ) → i < c → Tells w (from + i) (slice_index t i)

-- where parts of a table of `end` bytes begin, in their order, the first at 0
pub record Parts (bases : List ℕ) (count end : ℕ) : Type 0 where
  pub some : 0 < count
  pub listed : count ≤ length bases
  pub first : slice_index_or bases 0 0 ≡ 0
  pub order : (f : ℕ) → f + 1 < count → slice_index bases f ≤ slice_index bases (f + 1)
  pub last : (f : ℕ) → f < count → slice_index bases f ≤ end
