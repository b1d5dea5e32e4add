-- Tables of bits: a number of 32 bits for each place.
use Rattle.std.specs.Prelude.{◌≡◌, ℕ, ◌+◌, ◌-◌, ◌*◌, ◌/◌, ◌%◌, ◌^◌, ◌<◌, Bool, true, false, ◌⊎◌, List, sum_by, slice_index}

-- bit y of the word at i is set
unfoldable pub Bit : List ℕ → ℕ → ℕ → Type 0
Bit t i y = slice_index t i / 2 ^ y % 2 ≡ 1

-- bit x of node n is set: two words for each node
abbrev pub On : List ℕ → ℕ → ℕ → Type 0
On t n x = Bit t (2 * n + x / 32) (x % 32)

-- how far the words are from being all ones
unfoldable pub room : List ℕ → ℕ
room t = sum_by (λ w. 2 ^ 32 - w) t

-- what a step that says whether something was new leaves
pub record Grew (t t' : List ℕ) (new : Bool) : Type 0 where
  pub kept : (i y : ℕ) → Bit t i y → Bit t' i y
  pub same : new ≡ false → t' ≡ t
  pub less : new ≡ true → room t' < room t

-- the bits of one node have gone into another
pub record Joined (t t' : List ℕ) (from to : ℕ) : Type 0 where
  pub got : (x : ℕ) → x < 64 → On t from x → On t' to x
  pub only : (n x : ℕ) → x < 64 → On t' n x → On t n x ⊎ ((n ≡ to) × On t from x)

-- one bit of a node has been set
pub record Added (t t' : List ℕ) (m y : ℕ) : Type 0 where
  pub got : On t' m y
  pub only : (n x : ℕ) → x < 64 → On t' n x → On t n x ⊎ ((n ≡ m) × (x ≡ y))

-- a word has got the bits of b
pub record Merged (t t' : List ℕ) (i b : ℕ) : Type 0 where
  pub got : (y : ℕ) → b / 2 ^ y % 2 ≡ 1 → Bit t' i y
  pub only : (j y : ℕ) → Bit t' j y → Bit t j y ⊎ ((j ≡ i) × (b / 2 ^ y % 2 ≡ 1))
