-- Walking through procedures to list the calls of one of them.
use Rattle.std.proofs.Common.{◌≡◌, ℕ, ◌+◌, ◌≤◌, length, drop, Some, None, sym, ap, ◌∙◌, subst, inl, inr, arith}
use mathlib.Core.Option.{some}
use Rattle.std.specs.declared.iter.Enumerate.{Enumerate}
use Rattle.std.specs.Iterator.Adapters.{enumerate_count, enumerate_steps}
use Rattle.std.proofs.lemmas.Bool.{cases_eq}
use Rattle.program.specs.declared.procedures.Procedure.{Procedure}
use Rattle.program.specs.declared.walks.Procedures.{Procedures}
use Rattle.program.specs.Program.{nth, call, Proc, Prog}
use Rattle.program.specs.Numbers.{loc}
use Rattle.program.specs.Walks.{GivesProcedure}
use Rattle.program.proofs.Kept.{nth_lt}
use Rattle.expansion.specs.declared.sites.Sites.{Sites}
use Rattle.expansion.specs.declared.source.Source.{Source}
use Rattle.expansion.specs.Listing.{calls_in, calls_of, Adds, StepCalls, ProcCalls, InProcedure, ProcListed, CalleeListed}
use Rattle.expansion.specs.Programs.{Known}
use Rattle.expansion.proofs.Counting.{calls_proc}
use Rattle.expansion.proofs.Collecting.{adds_add}
use Rattle.expansion.proofs.Walking.{Walk, walk_last, walk_here, walk_next, here, first_place, proc_is}

-- the calls of procedure e in procedures below f are listed
pub record Along (e : ℕ) (x y : Sites) (f : ℕ) (g : Prog) : Type 0 where
  pub few : y.count + calls_of e (drop f g.procs) ≤ x.count + calls_of e g.procs
  pub adds : Adds (ProcCalls g e f) x y

module _ {e : ℕ} {x y : Sites} {f : ℕ} {g : Prog} (v : Along e x y f g) {p : Proc} (there : nth g.procs f ≡ some p) where
  pub along_room : y.count + calls_in e p.steps ≤ x.count + calls_of e g.procs
  along_room = omega (arith, v.few, calls_proc e f g.procs p there)

  along_here : (m : ℕ) (i : ProcCalls g e (f + 1) m) → i.f ≡ f → StepCalls g e f p (length p.steps) m
  along_here m i z =
      let t : nth g.procs f ≡ some i.p = subst (λ x. nth g.procs x ≡ some i.p) z i.there in
      let same : i.p ≡ p = (let u = there in cc) in
      let calls : nth p.steps i.a ≡ some (call e) = subst (λ (x : Proc). nth x.steps i.a ≡ some (call e)) same i.calls in
      record { a = i.a; early = nth_lt p.steps i.a (call e) calls; calls = calls; is = i.is ∙ ap (λ x. loc g x i.p i.a 0) z ∙ ap (λ x. loc g f x i.a 0) same }

  pub along_next : (z : Sites) → InProcedure g e f p y z → Along e x z (f + 1) g
  along_next z i = record {
    few = omega (arith, v.few, i.few, calls_proc e f g.procs p there);
    adds = adds_add v.adds i.adds
        (λ m c. record { f = c.f; p = c.p; a = c.a; early = omega (arith, c.early); there = c.there; calls = c.calls; is = c.is })
        (λ m c. record { f = f; p = p; a = c.a; early = omega arith; there = there; calls = c.calls; is = c.is })
        (λ m c. elim (cases_eq c.f f) [
          | inl b ↦ inr (along_here m c b)
          | inr b ↦ inl (record { f = c.f; p = c.p; a = c.a; early = omega (arith, c.early); there = c.there; calls = c.calls; is = c.is })
        ]);
  }

-- the calls of procedure e in the procedures before the walk are listed
pub record Passing (src : Source) (e : ℕ) (x y : Sites) (t : Enumerate Procedures) : Type 0 where
  pub walk : Walk src.bytes.now src.header t
  pub it : (g : Prog) → Known src g → Along e x y (enumerate_count t) g

module _ {src : Source} {e : ℕ} {x y : Sites} {t : Enumerate Procedures} (v : Passing src e x y t) (u : Enumerate Procedures) where
  pub passing_last : enumerate_steps GivesProcedure t None u → CalleeListed src e x y
  passing_last m g o =
      let z = v.it g o in
      let n = walk_last v.walk u m g o.headed in
      record { few = omega (arith, z.few); adds = subst (λ f. Adds (ProcCalls g e f) x y) n z.adds }

  module _ (f : ℕ) (d : Procedure) (m : enumerate_steps GivesProcedure t (Some (f, d)) u) where
    along : {g : Prog} → Known src g → Along e x y f g
    along {g} o = subst (λ n. Along e x y n g) (sym m.1) (v.it g o)

    pub passing_room : {g : Prog} (o : Known src g) → y.count + calls_in e (here v.walk u f d m g o.headed).p.steps ≤ x.count + calls_of e g.procs
    passing_room {g} o = along_room (along o) (here v.walk u f d m g o.headed).there

    pub passing_next : (z : Sites) → ProcListed src d (first_place src f d) e y z → Passing src e x z u
    passing_next z i = record {
      walk = walk_next v.walk u f d m;
      it = λ g o.
          let k = here v.walk u f d m g o.headed in
          let n : f + 1 ≡ enumerate_count u = omega (arith, m.1, m.2) in
          subst (λ n. Along e x z n g) n (along_next (along o) k.there z (i g f k.p (proc_is src f d o (walk_here v.walk u f d m) k)));
    }
