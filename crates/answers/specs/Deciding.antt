-- What deciding a program gives.
use Rattle.std.specs.Prelude.{ℕ, List, Ok, Err, vec_items, Result}
use Rattle.program.specs.Program.{Prog}
use Rattle.program.specs.Rows.{Reads}
use Rattle.report.specs.declared.complaints.Complaint.{Complaint}
use Rattle.answers.specs.declared.deciding.Decided.{Decided}
use Rattle.answers.specs.Holding.{IsDecided}

-- d is g: its bytes, its header, its table
abbrev pub Holds : Prog → Decided → Type 0
Holds g d = IsDecided g (vec_items d.bytes) d.header (vec_items d.table)

-- the bytes s were decided, for the program that they are
abbrev pub DecidedOf : List ℕ → Result Decided Complaint → Type 0
DecidedOf s (Ok d) = (g : Prog) → Reads s g → Holds g d
DecidedOf s (Err c) = Unit {0}
