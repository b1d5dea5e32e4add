-- A small program, worked: a procedure that calls itself as often as it likes and turns the shared
-- variable over on the way back.
use Rattle.std.specs.Prelude.{◌≡◌, ℕ, Bool, true, false, List, [], ◌∷◌}
use Rattle.program.specs.Program.{var, not1, set, open1, go, call, Proc, Prog, St}
use Rattle.program.specs.Runs.{Reached}
use Rattle.program.specs.Rows.{Reads}
use Rattle.program.specs.Table.{total, spot}

-- variable 0 is shared, variable 1 the procedure's own: open it; go to place 3 if it holds; call the same
-- procedure; set the shared variable to not itself
abbrev pub ring : Proc
ring = record { own = 1; steps = open1 1 ∷ go (var 1) 3 ∷ call 1 ∷ set 0 (not1 (var 0)) ∷ [] }

abbrev pub first : Proc
first = record { own = 0; steps = call 1 ∷ [] }

abbrev pub program : Prog
program = record { shared = 1; procs = first ∷ ring ∷ [] }

abbrev pub bytes : List ℕ
bytes = 1 ∷ 0 ∷ 1 ∷ 3 ∷ 1 ∷ 1 ∷ 4 ∷ 1 ∷ 1 ∷ 2 ∷ 3 ∷ 1 ∷ 1 ∷ 3 ∷ 1 ∷ 0 ∷ 0 ∷ 2 ∷ 1 ∷ 0 ∷ []

-- procedure 1 at this place with its own variable so, called by procedure 0, the shared variable no
abbrev pub in_ring : ℕ → Bool → St
in_ring a b = record { shared = false ∷ []; top = record { proc = 1; at = a; vars = b ∷ [] }; below = record { proc = 0; at = 1; vars = [] } ∷ [] }

pub record Worked : Type 0 where
  pub reads : Reads bytes program
  -- one run enters procedure 1, another has chosen yes and gone to place 3
  pub enters : Reached program (in_ring 0 false)
  pub goes : Reached program (in_ring 3 true)
  -- the table has 24 bytes, and the second of these configurations is byte 18
  pub long : total program.shared program.procs ≡ 24
  pub byte : spot program 1 ring 3 (false ∷ []) (true ∷ []) ≡ 18
