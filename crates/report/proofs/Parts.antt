-- Walking to a procedure finds it, and the bytes of the table that come before it.
use Rattle.std.proofs.Common.{◌≡◌, ℕ, ◌+◌, ◌*◌, ◌^◌, ◌<◌, ◌≤◌, List, length, Some, None, Ok, refl, sym, ◌∙◌, subst, pow_pos, pow_mono, arith}
use Rattle.std.proofs.Math.Logic.{∥∥₁_elim}
use Rattle.std.proofs.Math.Bridge.{le_prop}
use mathlib.Core.HLevel.{⊥_prop}
use Rattle.program.specs.declared.procedures.Procedure.{Procedure}
use Rattle.program.specs.declared.programs.Header.{Header}
use Rattle.program.specs.Program.{Prog}
use Rattle.program.specs.declared.walks.Procedures.{Procedures}
use Rattle.program.specs.Rows.{Reads}
use Rattle.program.specs.Reading.{ReadProc, ReadProgram, HeaderOf}
use Rattle.program.specs.Table.{before, size}
use Rattle.program.specs.Walking.{Rest}
use Rattle.program.specs.Walks.{AtProcedure, GivesProcedure}
use Rattle.program.proofs.Walk.{rest_first, rest_next}
use Rattle.program.proofs.Turns.{procedure_next, procedures_all}
use Rattle.program.proofs.Sizes.{total_small, before_none, before_next, before_le}
use Rattle.report.specs.Queries.{Parted}
use Rattle.report.proofs.Bounds.{shared_few, procs_few}

-- procedure f stands at `at`, and b bytes of the table come before it
pub record Upto (s : List ℕ) (h : Header) (f at b : ℕ) : Type 0 where
  pub rest : (g : Prog) → Reads s g → HeaderOf g h → Rest g s f at
  pub base : (g : Prog) → Reads s g → HeaderOf g h → b ≡ before g.shared g.procs f

pub upto_first : (s : List ℕ) (h : Header) → Upto s h 0 1 0
upto_first s h = record { rest = λ g r k. rest_first r; base = λ g r k. sym (before_none g.shared g.procs) }

module _ {s : List ℕ} {h : Header} {f at b : ℕ} (l : Upto s h f at b) (read : ∥ ReadProgram s (Ok h) ∥₁) where
  pub upto_small : b ≤ 67108864
  upto_small = ∥∥₁_elim read le_prop (λ k.
      let g = k.0 in
      let r = k.1 in
      omega (arith, l.base g r k.2, before_le g.shared g.procs f, total_small g.shared (length g.procs) g.procs r.few r.procs, r.most))

  module _ (here : f < h.procs) (d : Procedure) (q : ReadProc h.shared h.procs s at (Ok d)) where
    pub upto_next : (z : ℕ) → z ≡ (d.steps + 1) * 2 ^ (h.shared + d.own) → Upto s h (f + 1) d.end (b + z)
    upto_next z is = record {
      rest = λ g r k. (rest_next r f at (l.rest g r k) (omega (arith, k.procs)) _ _ d q).rest;
      base = λ g r k.
          let n = rest_next r f at (l.rest g r k) (omega (arith, k.procs)) _ _ d q in
          let e : z ≡ size g.shared q.0.it = is ∙ λ i. (q.1.steps i + 1) * 2 ^ (k.shared i + q.1.own i) in
          omega (arith, l.base g r k, e, before_next g.shared g.procs f q.0.it n.at_f);
    }

    pub own_few : d.own ≤ 6
    own_few = subst (λ x. x ≤ 6) (sym q.1.own) q.0.fine.few

    pub parted : (w : ℕ) → w ≡ 2 ^ (h.shared + d.own) → Parted s h f (record { procedure = d; base = b; width = w })
    parted w wide = (
      λ g r k.
          let n = rest_next r f at (l.rest g r k) (omega (arith, k.procs)) _ _ d q in
          record { p = q.0.it; there = n.at_f; own = q.1.own; steps = q.1.steps; few = q.0.fine.few; base = l.base g r k; width = wide ∙ λ i. 2 ^ (k.shared i + q.1.own i) },
      own_few,
      upto_small,
      subst (λ x. 1 ≤ x) (sym wide) (pow_pos (h.shared + d.own)),
      subst (λ x. x ≤ 4096) (sym wide) (pow_mono {i = h.shared + d.own} {j = 12} (omega (arith, own_few, shared_few read))),
    )

-- the walk has passed n procedures, none of them the one that is looked for, and their bytes are added up
pub record Passing (s : List ℕ) (h : Header) (number b n : ℕ) (w : Procedures) : Type 0 where
  pub here : AtProcedure s h n w.at w
  pub upto : Upto s h n w.at b
  pub below : n ≤ number

pub passing : {s z : List ℕ} {h : Header} {v w : Procedures} (number n : ℕ) → AtProcedure z h 0 1 v → z ≡ s → w ≡ v → n ≡ 0 → Passing s h number 0 n w
passing {s} {z} {h} {v} {w} number n k e same first = subst (λ i. Passing s h number 0 i w) (sym first) (subst (Passing s h number 0 0) (sym same) (record {
  here = record { bytes = k.bytes ∙ e; header = k.header; at = refl; left = k.left };
  upto = subst (λ at. Upto s h 0 at 0) (sym k.at) (upto_first s h);
  below = omega arith;
}))

module _ {s : List ℕ} {h : Header} {number b n : ℕ} {w : Procedures} (inv : Passing s h number b n w) (read : ∥ ReadProgram s (Ok h) ∥₁) where
  pub left_few : n + w.left ≤ 64
  left_few = omega (arith, inv.here.left, procs_few read)

  pub pass : (v : Procedures) (d : Procedure) → GivesProcedure w (Some d) v → n < number → (z : ℕ) → z ≡ (d.steps + 1) * 2 ^ (h.shared + d.own) → Passing s h number (b + z) (n + 1) v
  pass v d k more z is =
      let t = procedure_next inv.here v d k in
      record {
        here = record { bytes = t.2.bytes; header = t.2.header; at = refl; left = t.2.left };
        upto = subst (λ at. Upto s h (n + 1) at (b + z)) (sym t.2.at) (upto_next inv.upto read t.0 d t.1 z is);
        below = omega arith;
      }

  pub own_come : (v : Procedures) (d : Procedure) → GivesProcedure w (Some d) v → d.own ≤ 6
  own_come v d k =
      let t = procedure_next inv.here v d k in
      own_few inv.upto read t.0 d t.1

  pub found : (v : Procedures) (d : Procedure) → GivesProcedure w (Some d) v → (x : ℕ) → x ≡ 2 ^ (h.shared + d.own) → Parted s h n (record { procedure = d; base = b; width = x })
  found v d k x wide =
      let t = procedure_next inv.here v d k in
      parted inv.upto read t.0 d t.1 x wide

  -- the walk does not end before the one that is looked for
  pub not_passed : (v : Procedures) → GivesProcedure w None v → number < h.procs → ⊥
  not_passed v k there = ∥∥₁_elim read ⊥_prop (λ r.
      let all = procedures_all inv.here v k r.1 r.2 (inv.upto.rest r.0 r.1 r.2) in
      absurd (omega (arith, all, inv.below)))
