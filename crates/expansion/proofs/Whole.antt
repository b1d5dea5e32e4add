-- Procedure by procedure, all nodes of a program are written.
use Rattle.std.proofs.Common.{◌≡◌, ℕ, ◌+◌, List, length, get_or, Some, None, sym, refl, ap, ◌∙◌, subst, arith}
use Rattle.std.specs.declared.iter.Enumerate.{Enumerate}
use Rattle.std.specs.Iterator.Adapters.{enumerate_count, enumerate_steps}
use Rattle.program.specs.declared.procedures.Procedure.{Procedure}
use Rattle.program.specs.declared.programs.Header.{Header}
use Rattle.program.specs.declared.walks.Procedures.{Procedures}
use Rattle.program.specs.Program.{Prog}
use Rattle.program.specs.Table.{before, size}
use Rattle.program.specs.Walks.{GivesProcedure}
use Rattle.program.proofs.Prefix.{one_program}
use Rattle.program.proofs.Sizes.{before_all, before_none}
use Rattle.expansion.specs.declared.source.Source.{Source}
use Rattle.expansion.specs.Words.{Upto}
use Rattle.expansion.specs.Procs.{ProcDone}
use Rattle.expansion.specs.Programs.{Headed, Begin, Known, Expanded}
use Rattle.expansion.proofs.Walking.{Walk, walk_last, walk_here, walk_next, here, first_place, proc_is}

-- the bytes are one program
pub known : {x : Source} {g : Prog} → Known x g → (g1 : Prog) → Headed x.bytes.now x.header g1 → Known x g1
known {x} {g} k g1 r = record { headed = r; begins = subst (λ y. Begin x.bases.now y (length y.procs)) (one_program x.bytes.now g g1 k.headed.reads r.reads) k.begins }

-- the procedures before the walk are written
pub record Sofar (s : List ℕ) (h : Header) (starts w : List ℕ) (t : Enumerate Procedures) : Type 0 where
  pub walk : Walk s h t
  pub upto : (g : Prog) → Headed s h g → Upto g starts w (before g.shared g.procs (enumerate_count t))

pub sofar_first : {s : List ℕ} {h : Header} (starts w : List ℕ) {t : Enumerate Procedures} → Walk s h t → enumerate_count t ≡ 0 → Sofar s h starts w t
sofar_first starts w k c = record { walk = k; upto = λ g r n f p a v l. absurd (omega (arith, l, before_none g.shared g.procs, ap (before g.shared g.procs) c)) }

module _ {x : Source} {starts w : List ℕ} {t : Enumerate Procedures} (k : Sofar x.bytes.now x.header starts w t) (u : Enumerate Procedures) where
  pub sofar_next : {g : Prog} → Known x g → (f : ℕ) (d : Procedure) → enumerate_steps GivesProcedure t (Some (f, d)) u → (w' : List ℕ) → ProcDone x d (first_place x f d) (record { from = get_or starts f 0; until = get_or starts (f + 1) 0 }) w w' → Sofar x.bytes.now x.header starts w' u
  sofar_next o f d e w' done = record {
    walk = walk_next k.walk u f d e;
    upto = λ g r.
        let y = here k.walk u f d e g r in
        let B = before g.shared g.procs in
        let next : B f + size g.shared y.p ≡ B (enumerate_count u) = sym y.next ∙ ap B (omega (arith, e.1, e.2)) in
        subst (Upto g starts w') next (done g f y.p (proc_is x f d (known o g r) (walk_here k.walk u f d e) y) starts refl refl (subst (λ n. Upto g starts w (B n)) (sym e.1) (k.upto g r)));
  }

pub sofar_all : {s : List ℕ} {h : Header} {starts w : List ℕ} {t : Enumerate Procedures} → Sofar s h starts w t → (u : Enumerate Procedures) → enumerate_steps GivesProcedure t None u → Expanded s h starts w
sofar_all {starts = starts} {w = w} k u e g r = subst (Upto g starts w) (ap (before g.shared g.procs) (walk_last k.walk u e g r) ∙ before_all g.shared g.procs) (k.upto g r)
