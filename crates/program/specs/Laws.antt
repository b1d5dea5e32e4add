-- What is proved of every program, in words of its runs.
use Rattle.std.specs.Prelude.{◌≡◌, ℕ, ◌<◌, ◌≤◌, Bool, true, ◌⊎◌, ◌↔◌, List, ◌∷◌, length}
use Rattle.pushdown.specs.System.{Inside, Returns, Entered, Chain, Closed}
use Rattle.pushdown.specs.System as pushdown
use Rattle.program.specs.Program.{Proc, Prog, Frame, St}
use Rattle.program.specs.Runs.{Step, begin, Reached, Can, Keeps, over}
use Rattle.program.specs.Rows.{Reads, OneProgram}
use Rattle.program.specs.Table.{spot, total}
use Rattle.program.specs.Systems.{Node, state, node, resumed, system}
use Rattle.program.specs.Numbers.{Fits, numbered}

-- what can be done doesn't depend on who waits further below: no step is lost, and none is won
abbrev pub BelowIsNothing : Type 0
BelowIsNothing = (g : Prog) (s t : St) (fs : List Frame) → Step g s t → Step g (over s fs) (over t fs)

abbrev pub NorFromBelow : Type 0
NorFromBelow = (g : Prog) (s u : St) (fs : List Frame) → 0 < length s.below → Step g (over s fs) u → (t : St) × (u ≡ over t fs) × Step g s t

-- What a call comes back with. From e, where a procedure begins, over any frames that wait, there is a
-- run that returns to the newest of them, with these shared values, and never goes below them before:
-- exactly if the summaries have it
abbrev pub Summaries : Type 0
Summaries = (g : Prog) (e : Node) (sh : List Bool) (f : Frame) (fs : List Frame) → Keeps g (f ∷ fs) (state e (f ∷ fs)) (state (resumed f sh) fs) ↔ Returns (system g) e sh

-- and the summaries are put together from a procedure's own steps and from what its calls come back
-- with, each begun where the call was made: they lie in any table that is closed under this
abbrev pub LeastSummaries : Type 0
LeastSummaries = (g : Prog) (table : Node → Node → Bool) → Closed (system g) (λ e n. table e n ≡ true) → (e n : Node) → Inside (system g) e n → table e n ≡ true

-- A place is reached exactly if a procedure that some run enters can be inside there
abbrev pub ReachedByEntries : Type 0
ReachedByEntries = (g : Prog) (f a : ℕ) (sh own : List Bool) → Can g f a sh own ↔ ((e : Node) × Entered (system g) (node (begin g)) e × Inside (system g) e (resumed (record { proc = f; at = a; vars = own }) sh))

-- It is reached exactly if its number in the table is, by the moves on numbers
abbrev pub ReachedByNumbers : Type 0
ReachedByNumbers = (s : List ℕ) (g : Prog) → Reads s g → (f : ℕ) (p : Proc) (a : ℕ) (sh own : List Bool) → Fits g f p a sh own → Can g f a sh own ↔ ((bs : List ℕ) × pushdown.Reached (numbered g) 0 (spot g f p a sh own) bs)

-- and whether it is can be told: the tables are filled until nothing is new, and that ends
abbrev pub Told : Type 0
Told = (s : List ℕ) (g : Prog) → Reads s g → (f : ℕ) (p : Proc) (a : ℕ) (sh own : List Bool) → Fits g f p a sh own → Dec (Can g f a sh own)

-- As many can wait as calls can stand one within another, each made from where the procedure before it, begun
-- with the shared values that it was called with, can be inside
abbrev pub WaitsByCalls : Type 0
WaitsByCalls = (g : Prog) (d : ℕ) → ((t : St) × Reached g t × (length t.below ≡ d)) ↔ Chain (system g) (node (begin g)) d

-- How many can wait has a greatest number, or is endless, and which can be told
abbrev pub BoundedOrNot : Type 0
BoundedOrNot = (s : List ℕ) (g : Prog) → Reads s g →
    ((d : ℕ) × ((t : St) × Reached g t × (length t.below ≡ d)) × ((t : St) → Reached g t → length t.below ≤ d))
    ⊎ ((d : ℕ) → (t : St) × Reached g t × (d < length t.below))

-- a table has at most 2 ^ 26 bytes
abbrev pub SmallTable : Type 0
SmallTable = (s : List ℕ) (g : Prog) → Reads s g → total g.shared g.procs ≤ 67108864

pub record Laws : Type 0 where
  pub one_program : OneProgram
  pub below_is_nothing : BelowIsNothing
  pub nor_from_below : NorFromBelow
  pub summaries : Summaries
  pub least_summaries : LeastSummaries
  pub reached_by_entries : ReachedByEntries
  pub reached_by_numbers : ReachedByNumbers
  pub told : Told
  pub bounded_or_not : BoundedOrNot
  pub small_table : SmallTable
