-- Walking through the steps of a procedure, to list the calls of one procedure.
use Rattle.std.proofs.Common.{◌≡◌, ℕ, ◌+◌, ◌<◌, ◌≤◌, List, length, drop, Some, None, sym, refl, ap, ◌∙◌, subst, inl, inr, arith}
use mathlib.Core.Option.{some}
use Rattle.std.proofs.lemmas.Bool.{cases_eq}
use Rattle.program.specs.declared.procedures.Procedure.{Procedure}
use Rattle.program.specs.declared.steps.Step.{Step}
use Rattle.program.specs.declared.steps.Step.TheVariants.{Set, Open, Go, Call, Return}
use Rattle.program.specs.declared.steps.Found.{Found}
use Rattle.program.specs.declared.walks.Steps.{Steps}
use Rattle.program.specs.Program.{nth, I, call, Proc, Prog}
use Rattle.program.specs.Reading.{Means}
use Rattle.program.specs.Numbers.{loc}
use Rattle.program.specs.Walks.{GivesStep}
use Rattle.expansion.specs.declared.nodes.Place.{Place}
use Rattle.expansion.specs.declared.sites.Sites.{Sites}
use Rattle.expansion.specs.declared.source.Source.{Source}
use Rattle.expansion.specs.Nodes.{StepIs, PlaceAt}
use Rattle.expansion.specs.Procs.{StepsFrom, StepsAt, ProcIs}
use Rattle.expansion.specs.Listing.{calls_in, Adds, StepCalls, IsCall, Noted, ProcListed}
use Rattle.expansion.proofs.Placed.{next_small}
use Rattle.expansion.proofs.Stepping.{after, place_is, place_next, passed_is, step_next, step_last, steps_next}
use Rattle.expansion.proofs.Counting.{same_same, calls_step}
use Rattle.expansion.proofs.Collecting.{adds_add, adds_same}

-- a step that means a call of procedure e, and one that doesn't
pub is_call : (s : List ℕ) (end e : ℕ) (d : Step) → Means s end d (call e) → IsCall d e
is_call s end e (Set x at) m = let q = m.1 in cc
is_call s end e (Open x) m = cc
is_call s end e (Go t at) m = let q = m.1 in cc
is_call s end e (Call d) m = (d, refl, (let q : e ≡ d.0 = cc in sym q))
is_call s end e Return m = cc

pub call_means : (s : List ℕ) (end e : ℕ) (d : Step) (i : I) → IsCall d e → Means s end d i → i ≡ call e
call_means s end e d i h m = (let q : Means s end (Call h.0) i = subst (λ z. Means s end z i) h.1 m in q ∙ ap call h.2)

-- the calls of procedure e below place a are listed; the next step stands at `at`, and its place is r
pub record Within (src : Source) (e : ℕ) (x y : Sites) (a at : ℕ) (r : Place) (g : Prog) (f : ℕ) (p : Proc) : Type 0 where
  pub from : StepsFrom src.bytes.now p a at
  pub place : PlaceAt r g f p a
  pub few : y.count + calls_in e (drop a p.steps) ≤ x.count + calls_in e p.steps
  pub adds : Adds (StepCalls g e f p a) x y

pub record Inside (src : Source) (d : Procedure) (q : Place) (e : ℕ) (x y : Sites) (t : Steps) (r : Place) : Type 0 where
  pub a : ℕ
  pub walk : StepsAt src d a t
  pub it : (g : Prog) (f : ℕ) (p : Proc) → ProcIs src d q g f p → Within src e x y a t.at r g f p

module _ {src : Source} {d : Procedure} {q : Place} {g : Prog} {f : ℕ} {p : Proc} (h : ProcIs src d q g f p)
    {e : ℕ} {x y : Sites} {t : Steps} {r : Place} (k : Inside src d q e x y t r) (u : Steps) (r1 : Found) (m : GivesStep t (Some r1) u) where
  v : Within src e x y k.a t.at r g f p
  v = k.it g f p h

  next : (k.a < length p.steps) × StepIs src.bytes.now (Some r1.step) p k.a × StepsFrom src.bytes.now p (k.a + 1) u.at
  next = let n = step_next (passed_is h k.walk v.from) u r1 m in (n.0, n.1, n.2.from)

  pub within_small : r.first + r.width ≤ 67108864
  within_small = next_small (place_is h.its (Some r1.step) r k.a v.place (omega (arith, next.0)) next.1)

  -- a call has its place in the count
  call_here : IsCall r1.step e → nth p.steps k.a ≡ some (call e)
  call_here c = let n = next.1 in n.2 ∙ ap some (call_means src.bytes.now n.1 e r1.step n.0 c n.3)

  here_call : nth p.steps k.a ≡ some (call e) → IsCall r1.step e
  here_call c = let n = next.1 in let i : n.0 ≡ call e = (let y = n.2 in cc) in is_call src.bytes.now n.1 e r1.step (subst (Means src.bytes.now n.1 r1.step) i n.3)

  pub within_room : IsCall r1.step e → y.count < x.count + calls_in e p.steps
  within_room c = omega (arith, v.few, calls_step e k.a p.steps (call e) (call_here c), same_same e)

  -- the calls up to the next place are those below this one, and the one here
  later : (n : ℕ) → StepCalls g e f p k.a n → StepCalls g e f p (k.a + 1) n
  later n c = record { a = c.a; early = omega (arith, c.early); calls = c.calls; is = c.is }

  pub within_next : (z : Sites) → Noted r1.step e r.first y z → Within src e x z (k.a + 1) u.at (after r) g f p
  within_next z o = elim o [
    | inl c ↦ record {
      from = next.2;
      place = place_next r k.a v.place;
      few = omega (arith, v.few, calls_step e k.a p.steps (call e) (call_here c.0), same_same e, c.2);
      adds = adds_add v.adds c.1 later
          (λ n i. record { a = k.a; early = omega arith; calls = call_here c.0; is = i ∙ v.place.first })
          (λ n i. elim (cases_eq i.a k.a) [
            | inl b ↦ inr (i.is ∙ ap (λ t. loc g f p t 0) b ∙ sym v.place.first)
            | inr b ↦ inl (record { a = i.a; early = omega (arith, i.early); calls = i.calls; is = i.is })
          ]);
    }
    | inr c ↦ record {
      from = next.2;
      place = place_next r k.a v.place;
      few = omega (arith, v.few, calls_step e k.a p.steps next.1.0 next.1.2, ap (λ (s : Sites). s.count) c.1);
      adds = rw c.1 (adds_same v.adds later
          (λ n i. elim (cases_eq i.a k.a) [
            | inl b ↦ absurd (c.0 (here_call (subst (λ t. nth p.steps t ≡ some (call e)) b i.calls)))
            | inr b ↦ record { a = i.a; early = omega (arith, i.early); calls = i.calls; is = i.is }
          ]));
    }
  ]

module _ {src : Source} {d : Procedure} {q : Place} {e : ℕ} {x y : Sites} {t : Steps} {r : Place} (k : Inside src d q e x y t r) (u : Steps) where
  pub inside_next : (r1 : Found) → GivesStep t (Some r1) u → (z : Sites) → Noted r1.step e r.first y z → Inside src d q e x z u (after r)
  inside_next r1 m z o = record { a = k.a + 1; walk = steps_next k.walk u r1 m; it = λ g f p h. within_next h k u r1 m z o }

  pub inside_last : GivesStep t None u → ProcListed src d q e x y
  inside_last m g f p h =
      let v = k.it g f p h in
      let z : k.a ≡ length p.steps = step_last (passed_is h k.walk v.from) u m in
      record { few = omega (arith, v.few); adds = subst (λ t. Adds (StepCalls g e f p t) x y) z v.adds }
