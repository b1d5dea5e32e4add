-- When a program is summarised, and when it is refused.
use Rattle.std.specs.Prelude.{◌≡◌, ℕ, List, [], ◌∷◌, length, Ok, Err, vec_items, Result, Vec, String}
use Rattle.std.specs.declared.alloc.Global.{Global}
use Rattle.program.specs.declared.procedures.Procedure.{Procedure}
use Rattle.program.specs.declared.programs.Header.{Header}
use Rattle.program.specs.Program.{Proc, Prog}
use Rattle.program.specs.Rows.{Reads}
use Rattle.program.specs.Reading.{HeaderOf}
use Rattle.syntax.specs.Decimal.{Lists}
use Rattle.report.specs.declared.complaints.Complaint.{Complaint}
use Rattle.report.specs.declared.complaints.Complaint.TheVariants.{Memory}
use Rattle.report.specs.Files.{Refused}

-- procedure by procedure, what is told of it
abbrev pub Heads : List Proc → List Procedure → Type 0
Heads [] [] = Unit {0}
Heads [] (h ∷ hs) = ⊥
Heads (p ∷ ps) [] = ⊥
Heads (p ∷ ps) (h ∷ hs) = (h.own ≡ p.own) × (h.steps ≡ length p.steps) × Heads ps hs

-- all procedures of the program that the bytes are, unless memory is short
abbrev pub Walked : List ℕ → Header → Result (Vec Procedure Global) Complaint → Type 0
Walked s d (Ok v) = (g : Prog) → Reads s g → HeaderOf g d → Heads g.procs (vec_items v)
Walked s d (Err c) = c ≡ Memory

-- a summary is given only of a text that lists the bytes of a program, and a refusal only if it lists none
abbrev pub Summarised : List ℕ → Result (String Global) Complaint → Type 0
Summarised text (Ok told) = (s : List ℕ) × (g : Prog) × Lists text s × Reads s g
Summarised text (Err c) = Refused text c
