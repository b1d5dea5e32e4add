-- The call places of a program, procedure called by procedure called.
use Rattle.std.specs.Prelude.{◌≡◌, ℕ, ◌+◌, ◌<◌, ◌≤◌, List, [], ◌∷◌, length, slice_index}
use Rattle.std.proofs.Math.Option.{some}
use Rattle.program.specs.Program.{nth, call, Proc, Prog}
use Rattle.program.specs.Numbers.{loc}

-- how many steps there are
abbrev pub steps : List Proc → ℕ
steps [] = 0
steps (p ∷ ps) = length p.steps + steps ps

-- n is the first node of a place of procedure f that calls procedure e
pub record CallPlace (g : Prog) (e n : ℕ) : Type 0 where
  pub f : ℕ
  pub p : Proc
  pub a : ℕ
  pub there : nth g.procs f ≡ some p
  pub calls : nth p.steps a ≡ some (call e)
  pub is : n ≡ loc g f p a 0

-- the first `count` sites are call places, and those of procedure e are the ones from number starts e to
-- starts (e + 1)
pub record SitesAre (g : Prog) (starts sites : List ℕ) (count : ℕ) : Type 0 where
  pub within : count ≤ length sites
  pub order : (e : ℕ) → e < length g.procs → (slice_index starts e ≤ slice_index starts (e + 1)) × (slice_index starts (e + 1) ≤ count)
  pub each : (s : ℕ) → s < count → (e : ℕ) × CallPlace g e (slice_index sites s)
  pub all : (f : ℕ) (p : Proc) (a e : ℕ) → nth g.procs f ≡ some p → nth p.steps a ≡ some (call e) → (s : ℕ) × (slice_index starts e ≤ s) × (s < slice_index starts (e + 1)) × (slice_index sites s ≡ loc g f p a 0)
