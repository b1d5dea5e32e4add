-- Four words for each node: what kind of move it has, two numbers that go with it, and where its
-- procedure begins.
use Rattle.std.specs.Prelude.{◌≡◌, ℕ, ◌+◌, ◌*◌, ◌%◌, ◌^◌, ◌<◌, List, slice_index, slice_index_or}
use Rattle.program.specs.Program.{nth, Proc, Prog}
use Rattle.program.specs.Table.{before}
use Rattle.program.specs.Numbers.{Move, on, down, up, Loc, move_at}
use Rattle.expansion.specs.declared.nodes.Action.{Action}
use Rattle.expansion.specs.declared.nodes.Action.TheVariants.{Flow, Call, Return}
use Rattle.expansion.specs.declared.nodes.Node.{Node}
use Rattle.expansion.specs.declared.nodes.Words.{Words}

-- the first word, which tells the kinds of moves apart, and the two numbers that go with it
abbrev pub kind_of : Action → ℕ
kind_of (Flow x y) = 0
kind_of (Call c r) = 1
kind_of (Return s) = 2

abbrev pub first_of : Action → ℕ
first_of (Flow x y) = x
first_of (Call c r) = c
first_of (Return s) = s.from

abbrev pub second_of : Action → ℕ
second_of (Flow x y) = y
second_of (Call c r) = r
second_of (Return s) = s.until

-- the words of a node
abbrev pub words_of : Node → Words
words_of d = record { kind = kind_of d.action; first = first_of d.action; second = second_of d.action; base = d.base }

-- the words of node n are these four
pub record HoldsWords (w : List ℕ) (n : ℕ) (d : Words) : Type 0 where
  pub kind : slice_index_or w (4 * n) 0 ≡ d.kind
  pub first : slice_index_or w (4 * n + 1) 0 ≡ d.first
  pub second : slice_index_or w (4 * n + 2) 0 ≡ d.second
  pub base : slice_index_or w (4 * n + 3) 0 ≡ d.base

-- they were written, and those of nodes before n are as they were
pub record WroteWords (w w' : List ℕ) (n : ℕ) (d : Words) : Type 0 where
  pub holds : HoldsWords w' n d
  pub others : (i : ℕ) → i < 4 * n → slice_index w' i ≡ slice_index w i

-- the same of the words of a node
abbrev pub Holds : List ℕ → ℕ → Node → Type 0
Holds w n d = HoldsWords w n (words_of d)

abbrev pub Wrote : List ℕ → List ℕ → ℕ → Node → Type 0
Wrote w w' n d = WroteWords w w' n (words_of d)

-- what is written for a move of node n, with K shared values, in a procedure that begins at base and
-- whose call places are those from lo to hi: on to one of two nodes; a call of the procedure that begins
-- at c, and what waits; a return
abbrev pub Codes : ℕ → ℕ → ℕ → ℕ → ℕ → Node → Move → Type 0
Codes K n base lo hi d (on x y) = d ≡ record { action = Flow x y; base = base }
Codes K n base lo hi d (down m r) = (c : ℕ) × (d ≡ record { action = Call c r; base = base }) × (m ≡ c + n % K)
Codes K n base lo hi d up = d ≡ record { action = Return (record { from = lo; until = hi }); base = base }

-- all nodes below N have their words; call place numbers of procedure f are those from s f to s (f + 1)
abbrev pub Upto : Prog → List ℕ → List ℕ → ℕ → Type 0
Upto g s w N = (n f : ℕ) (p : Proc) (a v : ℕ) → n < N → Loc g n f p a v →
    (d : Node) × Holds w n d × Codes (2 ^ g.shared) n (before g.shared g.procs f) (slice_index s f) (slice_index s (f + 1)) d (move_at g f p a v (nth p.steps a))
