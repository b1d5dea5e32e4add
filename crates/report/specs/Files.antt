-- When a program is loaded, and when it is refused.
use Rattle.std.specs.Prelude.{ℕ, List, Ok, Err, vec_items, Result}
use Rattle.program.specs.Program.{Prog}
use Rattle.program.specs.Rows.{OneProgram, Reads}
use Rattle.program.specs.Reading.{ReadProgram}
use Rattle.syntax.specs.Decimal.{Lists}
use Rattle.report.specs.declared.complaints.Complaint.{Complaint}
use Rattle.report.specs.declared.complaints.Complaint.TheVariants.{Sentence, Memory}
use Rattle.report.specs.declared.loaded.Listed.{Listed}

-- a sentence of refusal is given only if the text lists no program; where memory is short nothing is said
abbrev pub Refused : List ℕ → Complaint → Type 0
Refused text (Sentence c) = (s : List ℕ) (g : Prog) → Lists text s → Reads s g → ⊥
Refused text Memory = Unit {0}

-- a program is loaded only from a text that lists its bytes
abbrev pub Loads : List ℕ → Result Listed Complaint → Type 0
Loads text (Ok p) = Lists text (vec_items p.listing.bytes) × ReadProgram (vec_items p.listing.bytes) (Ok p.header) × OneProgram
Loads text (Err c) = Refused text c
