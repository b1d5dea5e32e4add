-- A program that was decided.
use Rattle.std.specs.Prelude.{ℕ, List}
use Rattle.program.specs.declared.programs.Header.{Header}
use Rattle.program.specs.Program.{Prog}
use Rattle.program.specs.Rows.{Reads}
use Rattle.program.specs.Reading.{HeaderOf}
use Rattle.places.specs.Says.{Table}

-- s is g, h is its header, and t its table
pub record IsDecided (g : Prog) (s : List ℕ) (h : Header) (t : List ℕ) : Type 0 where
  pub reads : Reads s g
  pub header : HeaderOf g h
  pub table : Table g t
