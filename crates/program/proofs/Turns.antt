-- Walks through procedures and steps: what was read at each turn, and that a walk through a program that
-- was read ends only behind its last procedure, and behind the last step of a procedure.
use Rattle.std.proofs.Common.{◌≡◌, ℕ, ◌+◌, ◌<◌, ◌≤◌, List, Some, None, Ok, Err, Result, ap, ◌∙◌, subst, inl, inr, ⊎_elim, arith}
use Rattle.std.proofs.lemmas.Bool.{cases_lt}
use Rattle.std.specs.Result.{result_ok}
use Rattle.program.specs.declared.procedures.Procedure.{Procedure}
use Rattle.program.specs.declared.programs.Header.{Header}
use Rattle.program.specs.declared.steps.Found.{Found}
use Rattle.program.specs.declared.steps.Scope.{Scope}
use Rattle.program.specs.declared.walks.Procedures.{Procedures}
use Rattle.program.specs.declared.walks.Steps.{Steps}
use Rattle.program.specs.Program.{Prog}
use Rattle.program.specs.Rows.{row_i, row_p, OkP, Reads}
use Rattle.program.specs.Reading.{Nothing, InScope, ReadStep, ReadProc, HeaderOf}
use Rattle.program.specs.Walking.{Rest}
use Rattle.program.specs.Walks.{AtProcedure, GivesProcedure, AtStep, GivesStep}
use Rattle.program.proofs.Walk.{rest_some}

-- what `ok` keeps
pub was_ok : {T E : Type 0} (r : Result T E) (x : T) → result_ok r ≡ Some x → r ≡ Ok x
was_ok (Ok y) x h = cc
was_ok (Err e) x h = cc

-- one turn of a walk through procedures
module _ {s : List ℕ} {h : Header} {f at : ℕ} {w : Procedures} (here : AtProcedure s h f at w) where
  -- a procedure came: it stands where the walk was, and the walk is at its end
  pub procedure_next : (v : Procedures) (d : Procedure) → GivesProcedure w (Some d) v → (f < h.procs) × ReadProc h.shared h.procs s at (Ok d) × AtProcedure s h (f + 1) d.end v
  procedure_next v d k =
      let read : ReadProc h.shared h.procs s w.at (Ok d) = subst (λ (z : Header). ReadProc z.shared z.procs s w.at (Ok d)) here.header (subst (λ z. ReadProc w.header.shared w.header.procs z w.at (Ok d)) here.bytes k.0) in (
        omega (arith, here.left, k.4),
        subst (λ z. ReadProc h.shared h.procs s z (Ok d)) here.at read,
        record { bytes = ap (λ b. b.now) k.1 ∙ here.bytes; header = k.2 ∙ here.header; at = k.3; left = omega (arith, here.left, k.4) },
      )

  -- none came: no procedure that is fine stands here, or the walk is behind the last one
  pub procedure_last : (v : Procedures) → GivesProcedure w None v → (f < h.procs → Nothing row_p (OkP h.shared h.procs) s at → ⊥) → f ≡ h.procs
  procedure_last v k there = ⊎_elim (λ z. omega (arith, here.left, z)) none k.1
    where
      none : Nothing row_p (OkP w.header.shared w.header.procs) w.bytes.now w.at → f ≡ h.procs
      none q =
          let r : Nothing row_p (OkP h.shared h.procs) s w.at = subst (λ (z : Header). Nothing row_p (OkP z.shared z.procs) s w.at) here.header (subst (λ z. Nothing row_p (OkP w.header.shared w.header.procs) z w.at) here.bytes q) in
          let b : f ≤ h.procs = omega (arith, here.left) in
          elim (cases_lt f h.procs) [ inl l ↦ absurd (there l (subst (Nothing row_p (OkP h.shared h.procs) s) here.at r)) | inr l ↦ omega arith ]

  -- so in a program that was read the walk ends behind its last procedure
  pub procedures_all : {g : Prog} (v : Procedures) → GivesProcedure w None v → Reads s g → HeaderOf g h → Rest g s f at → f ≡ h.procs
  procedures_all {g} v k r d rest = procedure_last v k (λ l q. rest_some r f at rest (omega (arith, d.procs)) (subst (λ m. Nothing row_p (OkP g.shared m) s at) d.procs (subst (λ z. Nothing row_p (OkP z h.procs) s at) d.shared q)))

-- one turn of a walk through n steps
module _ {s : List ℕ} {c : Scope} {n a at : ℕ} {w : Steps} (here : AtStep s c n a at w) where
  pub step_next : (v : Steps) (d : Found) → GivesStep w (Some d) v → (a < n) × ReadStep c s at (Ok d) × AtStep s c n (a + 1) d.end v
  step_next v d k =
      let read : ReadStep c s w.at (Ok d) = subst (λ z. ReadStep z s w.at (Ok d)) here.scope (subst (λ z. ReadStep w.scope z w.at (Ok d)) here.bytes k.0) in (
        omega (arith, here.left, k.4),
        subst (λ z. ReadStep c s z (Ok d)) here.at read,
        record { bytes = ap (λ b. b.now) k.1 ∙ here.bytes; scope = k.2 ∙ here.scope; at = k.3; left = omega (arith, here.left, k.4) },
      )

  pub step_last : (v : Steps) → GivesStep w None v → (a < n → Nothing row_i (InScope c) s at → ⊥) → a ≡ n
  step_last v k there = ⊎_elim (λ z. omega (arith, here.left, z)) none k.1
    where
      none : Nothing row_i (InScope w.scope) w.bytes.now w.at → a ≡ n
      none q =
          let r : Nothing row_i (InScope c) s w.at = subst (λ z. Nothing row_i (InScope z) s w.at) here.scope (subst (λ z. Nothing row_i (InScope w.scope) z w.at) here.bytes q) in
          let b : a ≤ n = omega (arith, here.left) in
          elim (cases_lt a n) [ inl l ↦ absurd (there l (subst (Nothing row_i (InScope c) s) here.at r)) | inr l ↦ omega arith ]
