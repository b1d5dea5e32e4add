-- What solving a program leaves in the work memory, whole, so that its entries can be ranked.
use Rattle.std.specs.Prelude.{ℕ, ◌^◌, List}
use Rattle.saturation.specs.System as engine
use Rattle.program.specs.declared.programs.Header.{Header}
use Rattle.program.specs.Program.{Prog}
use Rattle.program.specs.Table.{total}
use Rattle.expansion.specs.Programs.{Headed}
use Rattle.expansion.specs.Words.{Upto}
use Rattle.expansion.specs.Sites.{SitesAre}

-- what solving g leaves: the words of each node, the call places, and the sets of entries and returns
pub record Solution (g : Prog) (starts words sites : List ℕ) (count : ℕ) (sets : List ℕ) : Type 0 where
  pub expanded : Upto g starts words (total g.shared g.procs)
  pub listed : SitesAre g starts sites count
  pub told : engine.Tells words (2 ^ g.shared) (total g.shared g.procs) 0 sets

-- whichever program the bytes are
abbrev pub Settled : List ℕ → Header → List ℕ → List ℕ → List ℕ → ℕ → List ℕ → Type 0
Settled s h starts words sites count sets = (g : Prog) → Headed s h g → Solution g starts words sites count sets
