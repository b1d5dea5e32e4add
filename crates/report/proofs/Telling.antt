-- What the byte of a query says is whether its place is reached.
use Rattle.std.proofs.Common.{◌≡◌, ℕ, zero, suc, ◌+◌, ◌*◌, ◌^◌, ◌<◌, ◌≤◌, List, [], ◌∷◌, length, get_or, Ok, codes, sym, ap, ◌∙◌, subst, inl, inr, arith}
use mathlib.Core.Option.{some}
use Rattle.std.proofs.lemmas.Bool.{cases_eq}
use Rattle.program.specs.declared.programs.Header.{Header}
use Rattle.program.specs.Program.{nth, Prog}
use Rattle.program.specs.Rows.{Reads, OneProgram}
use Rattle.program.specs.Reading.{ReadProgram, HeaderOf}
use Rattle.program.specs.Table.{spot, before}
use Rattle.places.specs.Says.{Table}
use Rattle.report.specs.declared.queries.Query.{Query}
use Rattle.report.specs.declared.queries.Part.{Part}
use Rattle.report.specs.Queries.{Parted, Spotted, Tells}

pub nth_get_or : (t : List ℕ) (k n : ℕ) → nth t k ≡ some n → get_or t k 0 ≡ n
nth_get_or [] k n e = absurd (let z : ◌≡◌ {A = ℕ} 0 1 = cc in omega arith)
nth_get_or (x ∷ t) zero n e = cc
nth_get_or (x ∷ t) (suc k) n e = nth_get_or t k n e

not_both : (told : List ℕ) → told ≡ codes "yes\n" → told ≡ codes "no\n" → ⊥
not_both told y n = let z : ◌≡◌ {A = ℕ} 4 3 = ap length (sym y ∙ n) in absurd (omega arith)

module _ (s : List ℕ) (d : Header) (q : Query) (h : Part) (at : ℕ) (t told : List ℕ) (read : ReadProgram s (Ok d)) (once : OneProgram) (part : Parted s d q.procedure h) (spotted : Spotted h q (Ok at)) (yes_if : get_or t at 0 ≡ 1 → told ≡ codes "yes\n") (no_if : (get_or t at 0 ≡ 1 → ⊥) → told ≡ codes "no\n") where
  pub tells : (g : Prog) → Reads s g → Table g t → Tells g q.procedure q.place q.values told
  tells g r table =
      let header : HeaderOf g d = subst (λ x. HeaderOf x d) (once s read.0 g read.1 r) read.2 in
      let o = part.0 g r header in
      let place : q.place ≤ length o.p.steps = omega (arith, spotted.0, o.steps) in
      let here : at ≡ before g.shared g.procs q.procedure + (q.place * 2 ^ (g.shared + o.p.own) + q.values) = spotted.2 ∙ λ i. o.base i + (q.place * o.width i + q.values) in
      record {
        p = o.p;
        there = o.there;
        place = place;
        values = subst (λ x. q.values < x) o.width spotted.1;
        one = elim (cases_eq (get_or t at 0) 1) [ inl e ↦ inl (yes_if e) | inr e ↦ inr (no_if e) ];
        is = λ sh own ls lo v.
            let n = table.tells q.procedure q.place o.p sh own o.there place ls lo in
            let same : spot g q.procedure o.p q.place sh own ≡ at = (λ i. before g.shared g.procs q.procedure + (q.place * 2 ^ (g.shared + o.p.own) + v i)) ∙ sym here in
            let byte : get_or t at 0 ≡ n.0 = nth_get_or t at n.0 (subst (λ k. nth t k ≡ some n.0) same n.1) in
            (λ can. yes_if (byte ∙ n.3.0 can), λ y. n.3.1 (elim (cases_eq (get_or t at 0) 1) [ inl e ↦ sym byte ∙ e | inr e ↦ absurd (not_both told y (no_if e)) ]));
      }
