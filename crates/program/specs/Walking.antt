-- Walking through the procedures of a program, in its bytes.
use Rattle.std.specs.Prelude.{◌≡◌, ℕ, List, drop}
use Rattle.program.specs.Program.{Prog}
use Rattle.program.specs.Rows.{rows, row_p}

-- what is left of the bytes from `at` on is procedure f and those behind it
abbrev pub Rest : Prog → List ℕ → ℕ → ℕ → Type 0
Rest g s f at = drop at s ≡ rows row_p (drop f g.procs)
