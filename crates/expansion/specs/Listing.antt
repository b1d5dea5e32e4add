-- Call places, listed one after another: which are in the list, and how many there can be.
use Rattle.std.specs.Prelude.{◌≡◌, ℕ, zero, suc, ◌+◌, ◌<◌, ◌≤◌, ◌⊎◌, List, [], ◌∷◌, length, slice_index}
use Rattle.std.proofs.Math.Option.{some}
use Rattle.program.specs.declared.programs.Header.{Header}
use Rattle.program.specs.declared.procedures.Procedure.{Procedure}
use Rattle.program.specs.declared.steps.Step.{Step}
use Rattle.program.specs.declared.steps.Step.TheVariants.{Call}
use Rattle.program.specs.declared.steps.ProcNo.{ProcNo}
use Rattle.program.specs.Program.{nth, I, set, open1, go, call, return, Proc, Prog}
use Rattle.program.specs.Numbers.{loc}
use Rattle.expansion.specs.declared.nodes.Place.{Place}
use Rattle.expansion.specs.declared.sites.Sites.{Sites}
use Rattle.expansion.specs.declared.source.Source.{Source}
use Rattle.expansion.specs.Procs.{ProcIs}
use Rattle.expansion.specs.Programs.{Headed, Known}
use Rattle.expansion.specs.Sites.{SitesAre}

-- 1 if two numbers are the same, else 0
abbrev pub same : ℕ → ℕ → ℕ
same zero zero = 1
same zero (suc b) = 0
same (suc a) zero = 0
same (suc a) (suc b) = same a b

-- 1 for a call of procedure e, else 0
abbrev pub hit : ℕ → I → ℕ
hit e (set x y) = 0
hit e (open1 x) = 0
hit e (go y t) = 0
hit e (call d) = same e d
hit e return = 0

-- how many steps call procedure e
unfoldable pub calls_in : ℕ → List I → ℕ
calls_in e [] = 0
calls_in e (i ∷ is) = hit e i + calls_in e is

-- in all procedures
unfoldable pub calls_of : ℕ → List Proc → ℕ
calls_of e [] = 0
calls_of e (p ∷ ps) = calls_in e p.steps + calls_of e ps

-- from number k to number k' the list has exactly the numbers that P is true of; before, it is as it was
pub record Listed (P : ℕ → Type 0) (w w' : List ℕ) (k k' : ℕ) : Type 0 where
  pub kept : (s : ℕ) → s < k → slice_index w' s ≡ slice_index w s
  pub up : k ≤ k'
  pub each : (s : ℕ) → k ≤ s → s < k' → P (slice_index w' s)
  pub all : (n : ℕ) → P n → (s : ℕ) × (k ≤ s) × (s < k') × (slice_index w' s ≡ n)

-- behind the nodes that were listed, exactly those that P is true of were, in the same words
pub record Adds (P : ℕ → Type 0) (x y : Sites) : Type 0 where
  pub same : y.words.ghost_name ≡ x.words.ghost_name
  pub long : length y.words.now ≡ length x.words.now
  pub found : Listed P x.words.now y.words.now x.count y.count

-- n is the first node of a place below c, in procedure f, which is p, that calls procedure e
pub record StepCalls (g : Prog) (e f : ℕ) (p : Proc) (c n : ℕ) : Type 0 where
  pub a : ℕ
  pub early : a < c
  pub calls : nth p.steps a ≡ some (call e)
  pub is : n ≡ loc g f p a 0

-- n is the first node of a place, in a procedure below c, that calls procedure e
pub record ProcCalls (g : Prog) (e c n : ℕ) : Type 0 where
  pub f : ℕ
  pub p : Proc
  pub a : ℕ
  pub early : f < c
  pub there : nth g.procs f ≡ some p
  pub calls : nth p.steps a ≡ some (call e)
  pub is : n ≡ loc g f p a 0

-- the step calls procedure e
abbrev pub IsCall : Step → ℕ → Type 0
IsCall step e = (d : ProcNo) × (step ≡ Call d) × (d.0 ≡ e)

-- a step was noted: number n, if the step calls procedure e
abbrev pub Noted : Step → ℕ → ℕ → Sites → Sites → Type 0
Noted step e n x y = (IsCall step e × Adds (λ m. m ≡ n) x y × (y.count ≡ x.count + 1)) ⊎ ((IsCall step e → ⊥) × (y ≡ x))

-- the calls of procedure e in a procedure are listed
pub record InProcedure (g : Prog) (e f : ℕ) (p : Proc) (x y : Sites) : Type 0 where
  pub few : y.count ≤ x.count + calls_in e p.steps
  pub adds : Adds (StepCalls g e f p (length p.steps)) x y

abbrev pub ProcListed : Source → Procedure → Place → ℕ → Sites → Sites → Type 0
ProcListed src d q e x y = (g : Prog) (f : ℕ) (p : Proc) → ProcIs src d q g f p → InProcedure g e f p x y

-- the calls of procedure e in all procedures are listed
pub record InProgram (g : Prog) (e : ℕ) (x y : Sites) : Type 0 where
  pub few : y.count ≤ x.count + calls_of e g.procs
  pub adds : Adds (ProcCalls g e (length g.procs)) x y

abbrev pub CalleeListed : Source → ℕ → Sites → Sites → Type 0
CalleeListed src e x y = (g : Prog) → Known src g → InProgram g e x y

-- the calls of all procedures are listed
abbrev pub SitesListed : List ℕ → Header → List ℕ → List ℕ → ℕ → Type 0
SitesListed s h starts sites count = (g : Prog) → Headed s h g → SitesAre g starts sites count
