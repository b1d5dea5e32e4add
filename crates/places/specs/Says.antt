-- What `know` and `depth` promise.
use Rattle.std.specs.Prelude.{◌≡◌, ℕ, ◌<◌, ◌≤◌, Bool, ◌↔◌, List, length, take, drop, Some, None, Option}
use Rattle.std.proofs.Math.Option.{some}
use Rattle.places.specs.declared.Known.{Known}
use Rattle.places.specs.declared.Known.TheVariants.{Told, NoProgram, OutFull, Few}
use Rattle.places.specs.declared.Deep.{Deep}
use Rattle.places.specs.declared.Deep.TheVariants.{AtMost, Endless, Unread, Short}
use Rattle.program.specs.Program.{nth, Proc, Prog, St}
use Rattle.program.specs.Runs.{Reached, Can}
use Rattle.program.specs.Rows.{Reads}
use Rattle.program.specs.Table.{total, spot, wants}
use Rattle.program.specs.Laws.{Laws, WaitsByCalls}

-- the table of g: as long as it should be, and at each place with values a byte that is 1 if some run
-- comes there, and 0 if none does
pub record Table (g : Prog) (t : List ℕ) : Type 0 where
  pub long : length t ≡ total g.shared g.procs
  pub tells : (f a : ℕ) (p : Proc) (sh own : List Bool) → nth g.procs f ≡ some p → a ≤ length p.steps → length sh ≡ g.shared → length own ≡ p.own →
      (n : ℕ) × (nth t (spot g f p a sh own) ≡ some n) × (n < 2) × (Can g f a sh own ↔ (n ≡ 1))

-- from the bytes s, with o in the table's memory before and o' after
abbrev pub KnownSays : List ℕ → List ℕ → List ℕ → Known → Type 0
KnownSays s o o' Told = (g : Prog) × (t : List ℕ) × Reads s g × Table g t × (take (length t) o' ≡ t) × (drop (length t) o' ≡ drop (length t) o)
KnownSays s o o' NoProgram = ((g : Prog) → Reads s g → ⊥) × (o' ≡ o)
KnownSays s o o' OutFull = (g : Prog) × Reads s g × (length o < total g.shared g.procs) × (o' ≡ o)
KnownSays s o o' Few = o' ≡ o

-- with w words of work memory; it is too few exactly if the program wants more
pub record KnownPost (s o o' : List ℕ) (w : ℕ) (r : Known) : Type 0 where
  pub says : KnownSays s o o' r
  pub few : ((g : Prog) × Reads s g × (w < wants g)) ↔ (r ≡ Few)
  -- the laws of programs that the answer rests on
  pub laws : Laws

-- how many can wait at once: some run comes to where d wait, and none to where more do
abbrev pub Bounded : Prog → ℕ → Type 0
Bounded g d = ((t : St) × Reached g t × (length t.below ≡ d)) × ((t : St) → Reached g t → length t.below ≤ d)

-- for every number, some run comes to where more wait
abbrev pub Unbounded : Prog → Type 0
Unbounded g = (d : ℕ) → (t : St) × Reached g t × (d < length t.below)

abbrev pub Measured : Prog → Option ℕ → Type 0
Measured g (Some d) = Bounded g d
Measured g None = Unbounded g

-- from the bytes s
abbrev pub DeepSays : List ℕ → Deep → Type 0
DeepSays s (AtMost d) = (g : Prog) × Reads s g × Bounded g d
DeepSays s Endless = (g : Prog) × Reads s g × Unbounded g
DeepSays s Unread = (g : Prog) → Reads s g → ⊥
DeepSays s Short = Unit {0}

-- with w words of work memory; it is too short exactly if the program wants more
pub record DeepPost (s : List ℕ) (w : ℕ) (r : Deep) : Type 0 where
  pub says : DeepSays s r
  pub short : ((g : Prog) × Reads s g × (w < wants g)) ↔ (r ≡ Short)
  -- the laws of programs that the answer rests on
  pub laws : Laws
  pub waits : WaitsByCalls
