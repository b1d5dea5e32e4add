-- What the engine's steps leave.
use Rattle.std.specs.Prelude.{◌≡◌, ℕ, ◌+◌, ◌%◌, ◌<◌, ◌≤◌, Bool, length}
use Rattle.saturation.specs.declared.engine.Engine.{Engine}
use Rattle.saturation.specs.Bits.{Bit, Grew, Added, Joined}
use Rattle.saturation.specs.System.{proc}
use Rattle.saturation.specs.Marks.{Marked, SameSize, SummarizedBut}
use Rattle.saturation.specs.Engine.{remaining}
use Rattle.saturation.specs.Visits.{Sound, Covered, Visit, Resume, Callers}

-- the same system, in the same memory
pub record Kept (e f : Engine) : Type 0 where
  pub system : f.system ≡ e.system
  pub sets : f.sets.ghost_name ≡ e.sets.ghost_name
  pub marks : f.marks.ghost_name ≡ e.marks.ghost_name

-- and the same sets
pub record Still (e f : Engine) : Type 0 where
  pub kept : Kept e f
  pub same : f.sets.now ≡ e.sets.now

-- the bits of one node have gone into another, which is marked if one was new
pub record Propagated (e f : Engine) (from to : ℕ) : Type 0 where
  pub kept : Kept e f
  pub new : Bool
  pub joined : Joined e.sets.now f.sets.now from to
  pub grew : Grew e.sets.now f.sets.now new
  pub marked : Marked e.marks.now f.marks.now to new

-- a bit of node n has been set, and n marked if that was new
pub record Inserted (e f : Engine) (n x : ℕ) : Type 0 where
  pub kept : Kept e f
  pub new : Bool
  pub added : Added e.sets.now f.sets.now n x
  pub grew : Grew e.sets.now f.sets.now new
  pub marked : Marked e.marks.now f.marks.now n new

-- the calls that enter the procedure of q with x have been marked, if something was new
abbrev pub CallersMarked : Engine → Engine → ℕ → ℕ → Bool → Type 0
CallersMarked e f q x = Callers e.system.graph.now e.system.shared e.system.nodes (proc e.system.graph.now q + x) f.sets.now e.marks.now f.marks.now

-- the procedure of q, entered with x, can return at q, and its calls have been marked if that was new
pub record Returned (e f : Engine) (q x : ℕ) : Type 0 where
  pub kept : Kept e f
  pub new : Bool
  pub added : Added e.sets.now f.sets.now (e.system.nodes + (proc e.system.graph.now q + x)) (q % e.system.shared)
  pub grew : Grew e.sets.now f.sets.now new
  pub callers : CallersMarked e f q x new

-- node n has been visited
pub record Visited (e f : Engine) (n : ℕ) : Type 0 where
  pub kept : Kept e f
  pub new : Bool
  pub visit : Visit e.system.graph.now e.system.shared e.system.nodes n e.sets.now e.marks.now f.sets.now f.marks.now new

-- what follows the call at n has been done
pub record Resumed (e f : Engine) (n : ℕ) : Type 0 where
  pub kept : Kept e f
  pub new : Bool
  pub resume : Resume e.system.graph.now e.system.shared e.system.nodes n e.sets.now e.marks.now f.sets.now f.marks.now new

-- nodes of the word of marks at c have been visited
pub record Drained (e f : Engine) (c : ℕ) : Type 0 where
  pub kept : Kept e f
  pub bits : (i y : ℕ) → Bit e.sets.now i y → Bit f.sets.now i y
  pub sound : (root : ℕ) → Sound e.system.graph.now e.system.shared e.system.nodes root e.sets.now → Sound e.system.graph.now e.system.shared e.system.nodes root f.sets.now
  pub covered : ((n : ℕ) → n < e.system.nodes → Covered e.system.graph.now e.system.shared e.system.nodes e.sets.now e.marks.now n) →
      (n : ℕ) → n < e.system.nodes → Covered e.system.graph.now e.system.shared e.system.nodes f.sets.now f.marks.now n
  pub summary : SummarizedBut c e.marks.now → SummarizedBut c f.marks.now
  pub size : SameSize e.marks.now f.marks.now
  pub less : (len : ℕ) → length e.marks.now.nodes + length e.marks.now.words ≡ len → remaining len f.sets.now f.marks.now ≤ remaining len e.sets.now e.marks.now
