-- A procedure, as the expansion has it at hand.
use Rattle.std.specs.Prelude.{◌≡◌, ℕ, ◌+◌, List, ◌++◌, length, drop, slice_index}
use Rattle.program.specs.declared.procedures.Procedure.{Procedure}
use Rattle.program.specs.declared.walks.Steps.{Steps}
use Rattle.program.specs.Program.{Proc, Prog}
use Rattle.program.specs.Rows.{rows, row_i}
use Rattle.program.specs.Table.{before, size}
use Rattle.program.specs.Walks.{AtStep}
use Rattle.expansion.specs.declared.nodes.Callers.{Callers}
use Rattle.expansion.specs.declared.nodes.Place.{Place}
use Rattle.expansion.specs.declared.source.Source.{Source}
use Rattle.expansion.specs.Words.{Upto}
use Rattle.expansion.specs.Nodes.{Numbered, PlaceAt}

-- the steps of p from place a on stand in the bytes at `at`
abbrev pub StepsFrom : List ℕ → Proc → ℕ → ℕ → Type 0
StepsFrom s p a at = (r : List ℕ) × (drop at s ≡ rows row_i (drop a p.steps) ++ r)

-- t has passed a steps of the procedure that was read as d, and their scope is its
pub record StepsAt (x : Source) (d : Procedure) (a : ℕ) (t : Steps) : Type 0 where
  pub walk : AtStep x.bytes.now t.scope d.steps a t.at t
  pub vars : t.scope.vars ≡ x.header.shared + d.own
  pub last : t.scope.last.0 ≡ d.steps
  pub procs : t.scope.procs ≡ x.header.procs

-- t is at the first step of the procedure that was read as d
pub record StepsOf (x : Source) (d : Procedure) (t : Steps) : Type 0 where
  pub all : StepsAt x d 0 t
  pub first : t.at ≡ d.first

-- procedure f, which is p, was read as d, and begins at place q
pub record ProcIs (x : Source) (d : Procedure) (q : Place) (g : Prog) (f : ℕ) (p : Proc) : Type 0 where
  pub its : Numbered x g f p
  pub own : d.own ≡ p.own
  pub steps : d.steps ≡ length p.steps
  pub from : StepsFrom x.bytes.now p 0 d.first
  pub shared : x.header.shared ≡ g.shared
  pub procs : x.header.procs ≡ length g.procs
  pub place : PlaceAt q g f p 0

-- t has passed a steps of procedure f, which is p, and their scope is the procedure's
pub record PassedIs (x : Source) (g : Prog) (f : ℕ) (p : Proc) (a : ℕ) (t : Steps) : Type 0 where
  pub its : Numbered x g f p
  pub walk : AtStep x.bytes.now t.scope (length p.steps) a t.at t
  pub from : StepsFrom x.bytes.now p a t.at
  pub vars : t.scope.vars ≡ g.shared + p.own
  pub last : t.scope.last.0 ≡ length p.steps
  pub procs : t.scope.procs ≡ length g.procs

-- t is at the first step of procedure f, which is p and begins at place q; of the header of x nothing is asked
pub record StepsIs (x : Source) (t : Steps) (q : Place) (g : Prog) (f : ℕ) (p : Proc) : Type 0 where
  pub all : PassedIs x g f p 0 t
  pub place : PlaceAt q g f p 0

-- the nodes of procedure f, which is p, were written, behind all nodes before it
abbrev pub ProcWritten : Prog → ℕ → Proc → Callers → List ℕ → List ℕ → Type 0
ProcWritten g f p r w w' = (starts : List ℕ) → slice_index starts f ≡ r.from → slice_index starts (f + 1) ≡ r.until →
    Upto g starts w (before g.shared g.procs f) → Upto g starts w' (before g.shared g.procs f + size g.shared p)

abbrev pub ProcDone : Source → Procedure → Place → Callers → List ℕ → List ℕ → Type 0
ProcDone x d q r w w' = (g : Prog) (f : ℕ) (p : Proc) → ProcIs x d q g f p → ProcWritten g f p r w w'

abbrev pub StepsDone : Source → Steps → Place → Callers → List ℕ → List ℕ → Type 0
StepsDone x t q r w w' = (g : Prog) (f : ℕ) (p : Proc) → StepsIs x t q g f p → ProcWritten g f p r w w'
