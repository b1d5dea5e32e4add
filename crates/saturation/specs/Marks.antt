-- Marks: a bit for each node that waits to be visited, 32 nodes a word, the first in the highest bit; and likewise a bit for each of those words that has a mark.
use Rattle.std.specs.Prelude.{◌≡◌, ℕ, ◌-◌, ◌*◌, ◌/◌, ◌%◌, ◌^◌, ◌<◌, ◌≤◌, Bool, true, false, ◌≢◌, ◌⊎◌, List, length, sum_by, slice_index}
use Rattle.saturation.specs.Bits.{Bit, On}

-- number n is marked
abbrev pub At : List ℕ → ℕ → Type 0
At t n = Bit t (n / 32) (31 - n % 32)

-- the marks of nodes, and those of their words
pub record Levels : Type 0 where
  pub nodes : List ℕ
  pub words : List ℕ

-- node n is marked
abbrev pub In : Levels → ℕ → Type 0
In m n = At m.nodes n

-- how many nodes so many words can mark: of 33 words 32 are for nodes, and one is for those
abbrev pub base : List ℕ → ℕ
base m = 1024 * (length m / 33)

-- each word with a mark is marked
abbrev pub Summarized : Levels → Type 0
Summarized m = (n : ℕ) → In m n → At m.words (n / 32)

-- the same, but for the word at c
abbrev pub SummarizedBut : ℕ → Levels → Type 0
SummarizedBut c m = (n : ℕ) → n / 32 ≢ c → In m n → At m.words (n / 32)

-- nothing is marked, and so many words have marks of nodes
pub record Clear (m : Levels) (many : ℕ) : Type 0 where
  pub no_node : (i : ℕ) → slice_index m.nodes i ≡ 0
  pub no_word : (i : ℕ) → slice_index m.words i ≡ 0
  pub long : length m.nodes ≡ many

-- as many words as before
pub record SameSize (m m' : Levels) : Type 0 where
  pub nodes : length m'.nodes ≡ length m.nodes
  pub words : length m'.words ≡ length m.words

-- no mark was taken away, of a node or of a word
pub record More (m m' : Levels) : Type 0 where
  pub stay : (j : ℕ) → In m j → In m' j
  pub words : (j : ℕ) → At m.words j → At m'.words j
  pub summary : (c : ℕ) → SummarizedBut c m → SummarizedBut c m'
  pub size : SameSize m m'

-- falls when a mark is taken away
unfoldable pub total : List ℕ → ℕ
total m = sum_by (λ w. w % 2 ^ 32) m

-- no bit of node n is set
abbrev pub Empty : List ℕ → ℕ → Type 0
Empty w n = (x : ℕ) → x < 64 → On w n x → ⊥

-- number n has been marked
pub record Set (t t' : List ℕ) (n : ℕ) : Type 0 where
  pub got : At t' n
  pub kept : (j : ℕ) → At t j → At t' j
  pub only : (j : ℕ) → At t' j → At t j ⊎ (j ≡ n)

-- if something was new, node n has been marked, and else nothing was done
pub record Marked (m m' : Levels) (n : ℕ) (new : Bool) : Type 0 where
  pub kept : More m m'
  pub got : new ≡ true → In m' n
  pub same : new ≡ false → m' ≡ m

-- the mark of n has been taken away, in the word at i
pub record Taken (t t' : List ℕ) (i n : ℕ) : Type 0 where
  pub is : n / 32 ≡ i
  pub kept : (j : ℕ) → j ≢ n → At t j → At t' j
  pub only : (j : ℕ) → At t' j → At t j
  pub less : total t' < total t

-- the mark of node n has been taken away, in the word at c
pub record NodeTaken (m m' : Levels) (c n : ℕ) : Type 0 where
  pub nodes : Taken m.nodes m'.nodes c n
  pub words : m'.words ≡ m.words
  pub size : SameSize m m'

-- the mark of the word at c has been taken away, and its nodes' marks stand
pub record WordTaken (m m' : Levels) (c : ℕ) : Type 0 where
  pub within : (c < length m.nodes) × (c / 32 < length m.words)
  pub words : (i : ℕ) × Taken m.words m'.words i c
  pub nodes : m'.nodes ≡ m.nodes
  pub size : SameSize m m'

-- node n has been marked, if it has bits at all
pub record Revisited (w : List ℕ) (m m' : Levels) (n : ℕ) : Type 0 where
  pub kept : More m m'
  pub got : In m' n ⊎ Empty w n

-- the nodes of a place with one shared value have been marked, if they have bits at all
pub record PlaceRevisited (k : ℕ) (w : List ℕ) (m m' : Levels) (from end x : ℕ) : Type 0 where
  pub kept : More m m'
  pub got : (j : ℕ) → from ≤ j → j < end → j % k ≡ x → In m' j ⊎ Empty w j

-- one bit of a node, which was set, has been cleared
pub record Removed (t t' : List ℕ) (m y : ℕ) : Type 0 where
  pub gone : On t' m y → ⊥
  pub only : (n x : ℕ) → On t' n x → On t n x
  pub kept : (n x : ℕ) → x < 64 → On t n x → On t' n x ⊎ ((n ≡ m) × (x ≡ y))
  pub less : total t' < total t
