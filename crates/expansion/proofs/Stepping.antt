-- Walking through the steps of a procedure: each is read in its turn, and its place is written.
use Rattle.std.proofs.Common.{◌≡◌, ℕ, zero, suc, ◌+◌, ◌*◌, ◌^◌, ◌<◌, ◌≤◌, List, [], ◌∷◌, ◌++◌, length, get_or, drop, Some, None, Option, sym, refl, ap, ◌∙◌, subst, append_assoc, add-mul, one-mul, add-one, arith}
use mathlib.Core.Option.{some, none}
use Rattle.program.specs.declared.steps.Step.{Step}
use Rattle.program.specs.declared.steps.Found.{Found}
use Rattle.program.specs.declared.steps.Scope.{Scope}
use Rattle.program.specs.declared.procedures.Procedure.{Procedure}
use Rattle.program.specs.declared.walks.Steps.{Steps}
use Rattle.program.specs.Program.{nth, I, Proc, Prog}
use Rattle.program.specs.Rows.{row_i, rows, OkI}
use Rattle.program.specs.Reading.{Nothing, InScope}
use Rattle.program.specs.Table.{before}
use Rattle.program.specs.Numbers.{loc}
use Rattle.program.specs.Walks.{GivesStep}
use Rattle.program.proofs.Prefix.{prefix_i}
use Rattle.program.proofs.Turns as turns
use Rattle.program.proofs.Walk.{split}
use Rattle.program.proofs.Kept.{ok_step}
use Rattle.expansion.specs.declared.nodes.Callers.{Callers}
use Rattle.expansion.specs.declared.nodes.Place.{Place}
use Rattle.expansion.specs.declared.source.Source.{Source}
use Rattle.expansion.specs.Words.{Upto}
use Rattle.expansion.specs.Nodes.{StepIs, Numbered, PlaceAt, PlaceIs, PlaceDone}
use Rattle.expansion.specs.Procs.{StepsFrom, StepsAt, StepsOf, ProcIs, PassedIs, StepsIs, ProcWritten}

-- past the last step
past : {A : Type 0} (xs : List A) (n : ℕ) → length xs ≤ n → nth xs n ≡ none
past [] n h = refl
past (x ∷ xs) zero h = absurd (omega arith)
past (x ∷ xs) (suc n) h = past xs n (omega arith)

-- the place after q
abbrev pub after : Place → Place
after q = record q { first = q.first + q.width }

-- a place of the procedure
pub place_is : {src : Source} {g : Prog} {f : ℕ} {p : Proc} → Numbered src g f p → (e : Option Step) (r : Place) (a : ℕ) → PlaceAt r g f p a → a ≤ length p.steps → StepIs src.bytes.now e p a → PlaceIs src e r g f p a
place_is its e r a l k m = record { its = its; place = k; step = m; at = l }

pub place_next : {g : Prog} {f : ℕ} {p : Proc} (r : Place) (a : ℕ) → PlaceAt r g f p a → PlaceAt (after r) g f p (a + 1)
place_next {g} {f} {p} r a l = record { base = l.base; width = l.width; shared = l.shared; first = omega (arith, l.first, l.width, add-mul a 1 (2 ^ (g.shared + p.own)), one-mul (2 ^ (g.shared + p.own))) }

-- the next step: it was read, or there is none behind the last
module _ {src : Source} {g : Prog} {f : ℕ} {p : Proc} {a : ℕ} {t : Steps} (h : PassedIs src g f p a t) where
  scope_ok : (i : I) → nth p.steps a ≡ some i → InScope t.scope i
  scope_ok i e = subst (λ z. OkI z t.scope.last.0 t.scope.procs i) (sym h.vars) (subst (λ z. OkI (g.shared + p.own) z t.scope.procs i) (sym h.last) (subst (λ z. OkI (g.shared + p.own) (length p.steps) z i) (sym h.procs) (ok_step h.its.good f p a i h.its.there e)))

  step_some : a < length p.steps → Nothing row_i (InScope t.scope) src.bytes.now t.at → ⊥
  step_some l n =
      let k = split p.steps a l in
      n k.0 (rows row_i (drop (suc a) p.steps) ++ h.from.0) (h.from.1 ∙ ap (λ z. rows row_i z ++ h.from.0) k.2 ∙ append_assoc (row_i k.0) (rows row_i (drop (suc a) p.steps)) h.from.0) (scope_ok k.0 k.1)

  pub step_next : (u : Steps) (r : Found) → GivesStep t (Some r) u → (a < length p.steps) × StepIs src.bytes.now (Some r.step) p a × PassedIs src g f p (a + 1) u
  step_next u r e =
      let n = turns.step_next h.walk u r e in
      let m = n.1 in
      let v = n.2 in
      let k = split p.steps a n.0 in
      let x = prefix_i m.0.it k.0 _ _ (sym m.0.stands.is ∙ h.from.1 ∙ ap (λ z. rows row_i z ++ h.from.0) k.2 ∙ append_assoc (row_i k.0) (rows row_i (drop (suc a) p.steps)) h.from.0) in
      let y : StepsFrom src.bytes.now p (a + 1) r.end = (h.from.0, rw add-one x.1) in (
        n.0,
        (m.0.it, r.end, k.1 ∙ ap some (sym x.0), m.1),
        record {
          its = h.its;
          walk = record { bytes = v.bytes; scope = refl; at = refl; left = v.left };
          from = subst (StepsFrom src.bytes.now p (a + 1)) (sym v.at) y;
          vars = ap (λ (z : Scope). z.vars) v.scope ∙ h.vars;
          last = ap (λ (z : Scope). z.last.0) v.scope ∙ h.last;
          procs = ap (λ (z : Scope). z.procs) v.scope ∙ h.procs;
        },
      )

  pub step_last : (u : Steps) → GivesStep t None u → a ≡ length p.steps
  step_last u e = turns.step_last h.walk u e step_some

-- a walk through the steps of a procedure that was read as d
module _ {src : Source} {d : Procedure} {q : Place} {g : Prog} {f : ℕ} {p : Proc} (h : ProcIs src d q g f p) where
  pub passed_is : {a : ℕ} {t : Steps} → StepsAt src d a t → StepsFrom src.bytes.now p a t.at → PassedIs src g f p a t
  passed_is k from = record {
    its = h.its;
    walk = record { bytes = k.walk.bytes; scope = refl; at = refl; left = k.walk.left ∙ h.steps };
    from = from;
    vars = omega (arith, k.vars, h.shared, h.own);
    last = k.last ∙ h.steps;
    procs = k.procs ∙ h.procs;
  }

  pub steps_is : {t : Steps} → StepsOf src d t → StepsIs src t q g f p
  steps_is k = record { all = passed_is k.all (subst (StepsFrom src.bytes.now p 0) (sym k.first) h.from); place = h.place }

-- the walk after a step
pub steps_next : {src : Source} {d : Procedure} {a : ℕ} {t : Steps} → StepsAt src d a t → (u : Steps) (r : Found) → GivesStep t (Some r) u → StepsAt src d (a + 1) u
steps_next {src} {d} {a} {t} at u r e =
    let n = (turns.step_next at.walk u r e).2 in
    record {
      walk = record { bytes = n.bytes; scope = refl; at = refl; left = n.left };
      vars = ap (λ (z : Scope). z.vars) n.scope ∙ at.vars;
      last = ap (λ (z : Scope). z.last.0) n.scope ∙ at.last;
      procs = ap (λ (z : Scope). z.procs) n.scope ∙ at.procs;
    }

-- procedure f, which is p, is written up to the place of the walk, and r is that place
pub record Going (src : Source) (cs : Callers) (w w1 : List ℕ) (t : Steps) (r : Place) (g : Prog) (f : ℕ) (p : Proc) : Type 0 where
  pub a : ℕ
  pub passed : PassedIs src g f p a t
  pub place : PlaceAt r g f p a
  pub done : (starts : List ℕ) → get_or starts f 0 ≡ cs.from → get_or starts (f + 1) 0 ≡ cs.until →
      Upto g starts w (before g.shared g.procs f) → Upto g starts w1 (loc g f p a 0)

module _ {src : Source} {cs : Callers} {w w1 : List ℕ} {t : Steps} {r : Place} {g : Prog} {f : ℕ} {p : Proc} (k : Going src cs w w1 t r g f p) where
  -- one place more, whatever stands there
  placed : (e : Option Step) (w2 : List ℕ) → PlaceDone src e r cs w1 w2 r.width → k.a ≤ length p.steps → StepIs src.bytes.now e p k.a → (starts : List ℕ) → get_or starts f 0 ≡ cs.from → get_or starts (f + 1) 0 ≡ cs.until →
      Upto g starts w (before g.shared g.procs f) → Upto g starts w2 (before g.shared g.procs f + (k.a + 1) * 2 ^ (g.shared + p.own))
  placed e w2 m l i starts lo hi u =
      let x = m g f p k.a (place_is k.passed.its e r k.a k.place l i) starts lo hi (k.done starts lo hi u) in
      let e1 : loc g f p k.a r.width ≡ before g.shared g.procs f + (k.a + 1) * 2 ^ (g.shared + p.own) = omega (arith, k.place.width, add-mul k.a 1 (2 ^ (g.shared + p.own)), one-mul (2 ^ (g.shared + p.own))) in
      subst (Upto g starts w2) e1 x

  module _ (u : Steps) where
    pub going_next : (r1 : Found) → GivesStep t (Some r1) u → (w2 : List ℕ) → PlaceDone src (Some r1.step) r cs w1 w2 r.width → Going src cs w w2 u (after r) g f p
    going_next r1 m w2 n =
        let i = step_next k.passed u r1 m in
        record {
          a = k.a + 1;
          passed = i.2;
          place = place_next r k.a k.place;
          done = λ starts lo hi v.
              let e : before g.shared g.procs f + (k.a + 1) * 2 ^ (g.shared + p.own) ≡ loc g f p (k.a + 1) 0 = omega arith in
              subst (Upto g starts w2) e (placed (Some r1.step) w2 n (omega (arith, i.0)) i.1 starts lo hi v);
        }

    pub going_last : GivesStep t None u → (w2 : List ℕ) → PlaceDone src None r cs w1 w2 r.width → ProcWritten g f p cs w w2
    going_last m w2 n starts lo hi v =
        let e : k.a ≡ length p.steps = step_last k.passed u m in
        subst (λ z. Upto g starts w2 (before g.shared g.procs f + (z + 1) * 2 ^ (g.shared + p.own))) e (placed None w2 n (omega (arith, e)) (past p.steps k.a (omega (arith, e))) starts lo hi v)

    -- what a place needs, with a step or behind the last
    pub going_is : (r1 : Found) → GivesStep t (Some r1) u → PlaceIs src (Some r1.step) r g f p k.a
    going_is r1 m = let i = step_next k.passed u r1 m in place_is k.passed.its (Some r1.step) r k.a k.place (omega (arith, i.0)) i.1

    pub going_end : GivesStep t None u → PlaceIs src None r g f p k.a
    going_end m = let e = step_last k.passed u m in place_is k.passed.its None r k.a k.place (omega (arith, e)) (past p.steps k.a (omega (arith, e)))
