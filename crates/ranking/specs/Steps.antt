-- Entries by procedure and value, and what one step of the ranker changes.
use Rattle.std.specs.Prelude.{◌≡◌, ℕ, ◌+◌, ◌<◌, length, slice_index}
use Rattle.saturation.specs.declared.System.{System}
use Rattle.ranking.specs.declared.Procedures.{Procedures}
use Rattle.ranking.specs.declared.levels.Entry.{Entry}
use Rattle.ranking.specs.declared.levels.Ranker.{Ranker}
use Rattle.ranking.specs.Levels.{Settles}

-- there is such an entry
abbrev pub IsEntry : System → Procedures → Entry → Type 0
IsEntry s p e = (e.procedure < length p.bases.now) × (e.value < s.shared)

-- the number of an entry: that of its node
abbrev pub number : Procedures → Entry → ℕ
number p e = slice_index p.bases.now e.procedure + e.value

-- calls of the entries in D have been removed, and what is given stays as it was
pub record Step (D : ℕ → Type 0) (a b : Ranker) : Type 0 where
  pub system : b.system ≡ a.system
  pub procedures : b.procedures ≡ a.procedures
  pub level : b.level.now ≡ a.level.now
  pub settles : Settles a.system a.procedures D a.sets.now a.next.now b.sets.now b.next.now
