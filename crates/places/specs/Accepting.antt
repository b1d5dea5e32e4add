-- What is found of bytes and work words before anything is solved.
use Rattle.std.specs.Prelude.{◌≡◌, ℕ, ◌<◌, ◌≤◌, List, Ok, Err, Result}
use Rattle.program.specs.Program.{Prog}
use Rattle.program.specs.Rows.{Reads}
use Rattle.program.specs.Table.{wants}
use Rattle.places.specs.declared.given.Program.{Program}
use Rattle.places.specs.declared.accepting.Refused.{Refused}
use Rattle.places.specs.declared.accepting.Refused.TheVariants.{NoProgram, FewWords}

-- of the bytes s, with w work words
abbrev pub Accepted : List ℕ → ℕ → Result Program Refused → Type 0
Accepted s w (Ok p) = (p.bytes.now ≡ s) × (p.header.work ≤ w)
Accepted s w (Err NoProgram) = (g : Prog) → Reads s g → ⊥
Accepted s w (Err FewWords) = (g : Prog) × Reads s g × (w < wants g)
