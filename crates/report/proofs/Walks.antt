-- Walking through the procedures tells each of them in its turn.
use Rattle.std.proofs.Common.{◌≡◌, ℕ, ◌+◌, ◌<◌, ◌≤◌, List, [], ◌∷◌, ◌++◌, drop, Some, None, Ok, refl, sym, ap, ◌∙◌, subst, append_assoc, append-nil, arith}
use Rattle.std.proofs.lemmas.List.{drop_all}
use Rattle.std.specs.Iterator.{Yields}
use Rattle.program.specs.declared.procedures.Procedure.{Procedure}
use Rattle.program.specs.declared.programs.Header.{Header}
use Rattle.program.specs.Program.{Prog}
use Rattle.program.specs.declared.walks.Procedures.{Procedures}
use Rattle.program.specs.Rows.{Reads}
use Rattle.program.specs.Reading.{ReadProc, HeaderOf}
use Rattle.program.specs.Walking.{Rest}
use Rattle.program.specs.Walks.{AtProcedure, GivesProcedure}
use Rattle.program.proofs.Walk.{rest_first, rest_next}
use Rattle.program.proofs.Turns.{procedure_next, procedures_all}
use Rattle.report.specs.Summaries.{Heads}

-- i procedures are told, and what is told of the others is told of all
pub record Sofar (s : List ℕ) (d : Header) (i at : ℕ) (told : List Procedure) : Type 0 where
  pub rest : (g : Prog) → Reads s g → HeaderOf g d → Rest g s i at
  pub heads : (g : Prog) → Reads s g → HeaderOf g d → (more : List Procedure) → Heads (drop i g.procs) more → Heads g.procs (told ++ more)

pub start : (s : List ℕ) (d : Header) → Sofar s d 0 1 []
start s d = record { rest = λ g r h. rest_first r; heads = λ g r h more k. k }

module _ {s : List ℕ} {d : Header} {i at : ℕ} {told : List Procedure} (inv : Sofar s d i at told) (here : i < d.procs) where
  pub next : (p : Procedure) → ReadProc d.shared d.procs s at (Ok p) → (told' : List Procedure) → told' ≡ told ++ (p ∷ []) → Sofar s d (i + 1) p.end told'
  next p q told' e = record {
    rest = λ g r h. (rest_next r i at (inv.rest g r h) (omega (arith, h.procs)) _ _ p q).rest;
    heads = λ g r h more k.
        let n = rest_next r i at (inv.rest g r h) (omega (arith, h.procs)) _ _ p q in
        let w = inv.heads g r h (p ∷ more) (subst (λ ps. Heads ps (p ∷ more)) (sym n.from_f) (q.1.own, q.1.steps, k)) in
        subst (Heads g.procs) (sym (append_assoc told (p ∷ []) more) ∙ ap (λ x. x ++ more) (sym e)) w;
  }

pub finish : {s : List ℕ} {d : Header} {i at : ℕ} {told : List Procedure} → Sofar s d i at told → d.procs ≤ i → (g : Prog) → Reads s g → HeaderOf g d → Heads g.procs told
finish {i = i} {told = told} inv l g r h =
    let none = drop_all i g.procs (omega (arith, h.procs)) in
    subst (Heads g.procs) (append-nil told) (inv.heads g r h [] (subst (λ ps. Heads ps []) (sym none) tt))

-- the walk has told all that it passed
pub record Walking (s : List ℕ) (d : Header) (told : List Procedure) (w : Procedures) : Type 0 where
  pub i : ℕ
  pub here : AtProcedure s d i w.at w
  pub sofar : Sofar s d i w.at told

pub walking : {s : List ℕ} {d : Header} {w : Procedures} → AtProcedure s d 0 1 w → Walking s d [] w
walking {s} {d} {w} h = record { i = 0; here = record { bytes = h.bytes; header = h.header; at = refl; left = h.left }; sofar = subst (λ at. Sofar s d 0 at []) (sym h.at) (start s d) }

module _ {s : List ℕ} {d : Header} {told : List Procedure} {w : Procedures} (inv : Walking s d told w) where
  pub walk_on : (v : Procedures) (p : Procedure) (told' : List Procedure) → GivesProcedure w (Some p) v → told' ≡ told ++ (p ∷ []) → Walking s d told' v
  walk_on v p told' k e =
      let n = procedure_next inv.here v p k in
      record {
        i = inv.i + 1;
        here = record { bytes = n.2.bytes; header = n.2.header; at = refl; left = n.2.left };
        sofar = subst (λ at. Sofar s d (inv.i + 1) at told') (sym n.2.at) (next inv.sofar n.0 p n.1 told' e);
      }

  pub walked : (v : Procedures) → GivesProcedure w None v → (g : Prog) → Reads s g → HeaderOf g d → Heads g.procs told
  walked v k g r h = finish inv.sofar (omega (arith, procedures_all inv.here v k r h (inv.sofar.rest g r h))) g r h

-- a walk that has given some procedures and ends has told all
pub all_walked : {s : List ℕ} {d : Header} (told ps : List Procedure) (w v u : Procedures) → Walking s d told w → Yields GivesProcedure w ps v → GivesProcedure v None u → (g : Prog) → Reads s g → HeaderOf g d → Heads g.procs (told ++ ps)
all_walked {s} {d} told [] w v u inv run end g r h =
    subst (Heads g.procs) (sym (append-nil told)) (walked (subst (Walking s d told) run inv) u end g r h)
all_walked told (p ∷ ps) w v u inv run end g r h =
    subst (Heads g.procs) (append_assoc told (p ∷ []) ps) (all_walked (told ++ p ∷ []) ps run.0 v u (walk_on inv run.0 p (told ++ p ∷ []) run.1 refl) run.2 end g r h)
