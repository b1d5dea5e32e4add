-- The bytes of a program, and how their number is told.
use Rattle.std.specs.Prelude.{ℕ, min, List, ◌∷◌}
use Rattle.program.specs.Program.{Prog}
use Rattle.program.specs.Rows.{row_p, rows}

-- the bytes that a program within the limits is written as
abbrev pub row : Prog → List ℕ
row g = g.shared ∷ rows row_p g.procs

-- a number of bytes, or a million where it is more
abbrev pub counted : ℕ → ℕ
counted n = min n 1000000
