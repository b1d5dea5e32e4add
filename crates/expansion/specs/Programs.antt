-- A whole program, expanded.
use Rattle.std.specs.Prelude.{◌≡◌, ℕ, ◌<◌, List, length, slice_index}
use Rattle.program.specs.declared.programs.Header.{Header}
use Rattle.program.specs.Program.{Prog}
use Rattle.program.specs.Rows.{Reads}
use Rattle.program.specs.Reading.{HeaderOf}
use Rattle.program.specs.Table.{before, total}
use Rattle.expansion.specs.declared.source.Source.{Source}
use Rattle.expansion.specs.Words.{Upto}

-- the bytes are g, and this is its header
pub record Headed (s : List ℕ) (h : Header) (g : Prog) : Type 0 where
  pub reads : Reads s g
  pub header : HeaderOf g h

-- the first c procedures begin where the list says
abbrev pub Begin : List ℕ → Prog → ℕ → Type 0
Begin bases g c = (e : ℕ) → e < c → (e < length bases) × (slice_index bases e ≡ before g.shared g.procs e)

-- the bytes are g, and its procedures begin where the list says
pub record Known (x : Source) (g : Prog) : Type 0 where
  pub headed : Headed x.bytes.now x.header g
  pub begins : Begin x.bases.now g (length g.procs)

-- where all procedures begin
abbrev pub Based : List ℕ → Header → List ℕ → Type 0
Based s h bases = (g : Prog) → Headed s h g → Begin bases g (length g.procs)

-- all nodes are written
abbrev pub Expanded : List ℕ → Header → List ℕ → List ℕ → Type 0
Expanded s h starts w = (g : Prog) → Headed s h g → Upto g starts w (total g.shared g.procs)
