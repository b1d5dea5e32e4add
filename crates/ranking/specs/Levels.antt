-- Entries are taken level by level: those with no call left first, then those whose calls all lead to such,
-- and so on. A call is removed once the entry that it calls has been taken. w: the calls that are left;
-- next: the entries of the next level, for each procedure a set of shared values.
use Rattle.std.specs.Prelude.{◌≡◌, ℕ, ◌+◌, ◌*◌, ◌<◌, ◌≤◌, ◌⊎◌, ◌↔◌, List, [], length, slice_index}
use Rattle.saturation.specs.Bits.{On}
use Rattle.saturation.specs.Marks.{total}
use Rattle.saturation.specs.System.{kind, site_begin, site_end}
use Rattle.saturation.specs.declared.System.{System}
use Rattle.ranking.specs.declared.Procedures.{Procedures}
use Rattle.ranking.specs.Calls.{CallAt, callee, Height, Done, Grouped}
use Rattle.ranking.specs.Counting.{Countable}

-- the words say a system and its procedures, and there is room for the sets of entries
pub record Known (s : System) (p : Procedures) (w c next : List ℕ) : Type 0 where
  pub countable : Countable s w c
  pub grouped : Grouped s.graph.now s.shared s.nodes s.sites.now p.bases.now p.starts.now
  pub next_long : 2 * length p.bases.now ≤ length next

-- with o for all calls: those that are gone lead to entries of height at most r, and the entries of the next
-- level have none left, and had one to an entry of height r
pub record Level (g : List ℕ) (k t : ℕ) (o : List ℕ) (r : ℕ) (bases w next : List ℕ) : Type 0 where
  pub fewer : (n x : ℕ) → On w n x → On o n x
  pub settled : (n x : ℕ) → n < t → kind g n ≡ 1 → x < k → On o n x → On w n x ⊎ ((h : ℕ) × (h ≤ r) × Height g k t o (callee g k n) h)
  pub ready : (f x : ℕ) → f < length bases → x < k → On next f x →
      ((n : ℕ) → CallAt g t w (slice_index bases f) x n → ⊥) × ((n : ℕ) × CallAt g t o (slice_index bases f) x n × Height g k t o (callee g k n) r)

-- entry (f, x) has a call left, or is of the next level
abbrev pub Waiting : List ℕ → ℕ → List ℕ → List ℕ → List ℕ → ℕ → ℕ → Type 0
Waiting g t bases w next f x = ((n : ℕ) × CallAt g t w (slice_index bases f) x n) ⊎ On next f x

-- calls of the entries in D have been removed
pub record Settles (s : System) (p : Procedures) (D : ℕ → Type 0) (w next w' next' : List ℕ) : Type 0 where
  pub fewer : (n x : ℕ) → On w' n x → On w n x
  pub waiting : (f x : ℕ) → f < length p.bases.now → x < s.shared → Waiting s.graph.now s.nodes p.bases.now w next f x → Waiting s.graph.now s.nodes p.bases.now w' next' f x
  pub level : (o : List ℕ) (r : ℕ) → ((d : ℕ) → D d → Height s.graph.now s.shared s.nodes o d r) → Level s.graph.now s.shared s.nodes o r p.bases.now w next → Level s.graph.now s.shared s.nodes o r p.bases.now w' next'
  pub less : ((next' ≡ next) × (total w' ≤ total w)) ⊎ (total w' < total w)

-- no call is left at the nodes of which N holds
abbrev pub Taken : List ℕ → ℕ → ℕ → List ℕ → (ℕ → Type 0) → Type 0
Taken g k t w N = (n x : ℕ) → n < t → kind g n ≡ 1 → N n → x < k → On w n x → ⊥

-- n is a call of entry d in the place with this number
abbrev pub InPlace : List ℕ → ℕ → List ℕ → ℕ → ℕ → ℕ → Type 0
InPlace g k c d s n = (site_begin c s ≤ n) × (n < site_end g c s) × (callee g k n ≡ d)

-- d is an entry of this level
abbrev pub OfLevel : System → Procedures → List ℕ → ℕ → Type 0
OfLevel s p level d = (f : ℕ) × (x : ℕ) × (f < length p.bases.now) × (x < s.shared) × On level f x × (d ≡ slice_index p.bases.now f + x)

-- no call is left of the entries of procedure f that are of this level
abbrev pub ProcedureDone : System → Procedures → List ℕ → List ℕ → ℕ → Type 0
ProcedureDone s p level w f = (x : ℕ) → x < s.shared → On level f x → Done s.graph.now s.shared s.nodes w (slice_index p.bases.now f + x)

-- the first level: the entries that have no call
abbrev pub Idle : System → Procedures → List ℕ → List ℕ → Type 0
Idle s p c level = (f x : ℕ) → f < length p.bases.now → x < s.shared → On level f x ↔ (slice_index c (slice_index p.bases.now f + x) ≡ 0)

-- those of procedure f below k, whose counts are c, have been added
pub record IdleAdded (k : ℕ) (c : List ℕ) (f : ℕ) (level level' : List ℕ) : Type 0 where
  pub kept : (h x : ℕ) → On level h x → On level' h x
  pub got : (x : ℕ) → x < k → slice_index c x ≡ 0 → On level' f x
  pub only : (h x : ℕ) → x < 64 → On level' h x → On level h x ⊎ ((h ≡ f) × (x < k) × (slice_index c x ≡ 0))

-- with o for all calls: the calls that are left, and the entries of height r, while the root has not been taken
pub record AtLevel (s : System) (p : Procedures) (o : List ℕ) (r : ℕ) (w level : List ℕ) : Type 0 where
  pub calls : Level s.graph.now s.shared s.nodes o r p.bases.now w []
  pub heights : (d : ℕ) → OfLevel s p level d → Height s.graph.now s.shared s.nodes o d r
  pub covered : (f x : ℕ) → f < length p.bases.now → x < s.shared → Waiting s.graph.now s.nodes p.bases.now w level f x ⊎ Done s.graph.now s.shared s.nodes w (slice_index p.bases.now f + x)
  pub rooted : Waiting s.graph.now s.nodes p.bases.now w level 0 0
  pub bound : r + total w ≤ total o
