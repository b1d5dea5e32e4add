-- What the walks through the procedures of a program, and through the steps of a procedure, give.
use Rattle.std.specs.Prelude.{◌≡◌, ℕ, ◌+◌, List, Some, None, Ok, ◌⊎◌, Option}
use Rattle.program.specs.declared.procedures.Procedure.{Procedure}
use Rattle.program.specs.declared.programs.Header.{Header}
use Rattle.program.specs.declared.steps.Found.{Found}
use Rattle.program.specs.declared.steps.Scope.{Scope}
use Rattle.program.specs.declared.walks.Procedures.{Procedures}
use Rattle.program.specs.declared.walks.Steps.{Steps}
use Rattle.program.specs.Rows.{row_i, row_p, OkP}
use Rattle.program.specs.Reading.{Nothing, InScope, ReadStep, ReadProc}

-- w has passed f procedures of those that the header h tells of, and the next one stands at `to`
pub record AtProcedure (s : List ℕ) (h : Header) (f to : ℕ) (w : Procedures) : Type 0 where
  pub bytes : w.bytes.now ≡ s
  pub header : w.header ≡ h
  pub at : w.at ≡ to
  pub left : f + w.left ≡ h.procs

-- the next procedure was read, and the walk is behind it; or the walk stays where it is, since none is
-- left or what stands there is none
abbrev pub GivesProcedure : Procedures → Option Procedure → Procedures → Type 0
GivesProcedure w (Some d) v =
    ReadProc w.header.shared w.header.procs w.bytes.now w.at (Ok d)
    × (v.bytes ≡ w.bytes) × (v.header ≡ w.header) × (v.at ≡ d.end) × (v.left + 1 ≡ w.left)
GivesProcedure w None v = (v ≡ w) × ((w.left ≡ 0) ⊎ Nothing row_p (OkP w.header.shared w.header.procs) w.bytes.now w.at)

-- w has passed a of n steps in the scope c, and the next one stands at `to`
pub record AtStep (s : List ℕ) (c : Scope) (n a to : ℕ) (w : Steps) : Type 0 where
  pub bytes : w.bytes.now ≡ s
  pub scope : w.scope ≡ c
  pub at : w.at ≡ to
  pub left : a + w.left ≡ n

abbrev pub GivesStep : Steps → Option Found → Steps → Type 0
GivesStep w (Some d) v =
    ReadStep w.scope w.bytes.now w.at (Ok d)
    × (v.bytes ≡ w.bytes) × (v.scope ≡ w.scope) × (v.at ≡ d.end) × (v.left + 1 ≡ w.left)
GivesStep w None v = (v ≡ w) × ((w.left ≡ 0) ⊎ Nothing row_i (InScope w.scope) w.bytes.now w.at)
