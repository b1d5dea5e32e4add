-- The work words suffice, and what is left in them gives the table.
use Rattle.std.proofs.Common.{◌≡◌, ℕ, zero, suc, ◌+◌, ◌*◌, ◌/◌, ◌^◌, ◌<◌, ◌≤◌, ◌↔◌, List, [], ◌∷◌, length, get_or, refl, ◌∙◌, subst, inl, inr, mul-add, le-mul_of_pos_right, arith}
use mathlib.Core.Option.{some}
use Rattle.std.proofs.lemmas.Nat.{pow_pos}
use Rattle.program.specs.declared.programs.Header.{Header}
use Rattle.program.specs.Program.{nth, Proc, Prog}
use Rattle.program.specs.Rows.{Every, OkP}
use Rattle.program.specs.Table.{before, total, spot, wants}
use Rattle.program.specs.Runs.{Can}
use Rattle.program.specs.Numbers.{Fits}
use Rattle.program.proofs.Spots.{spot_lt}
use Rattle.program.proofs.Kept.{good, nth_some}
use Rattle.program.proofs.Numbered.{can_iff}
use Rattle.expansion.specs.Programs.{Headed, Based}
use Rattle.expansion.specs.Sites.{steps}
use Rattle.program.proofs.Sizes.{before_none, before_next, before_le}
use Rattle.expansion.proofs.Walking.{small}
use Rattle.places.specs.Says.{Table}
use Rattle.places.specs.Solving.{Tells, Written, Solved, Parts}

-- there are few steps: no more than bytes of the table, and 255 for each procedure
steps_total : (k : ℕ) (ps : List Proc) → steps ps ≤ total k ps
steps_total k [] = omega arith
steps_total k (p ∷ ps) =
    let W = 2 ^ (k + p.own) in
    omega (arith, steps_total k ps, le-mul_of_pos_right {m = W} (length p.steps + 1) (pow_pos (k + p.own)))

steps_few : (k m : ℕ) (ps : List Proc) → Every (OkP k m) ps → steps ps ≤ length ps * 255
steps_few k m [] o = omega arith
steps_few k m (p ∷ ps) o = omega (arith, steps_few k m ps o.1, o.0.short)

module _ {s : List ℕ} {h : Header} {g : Prog} (r : Headed s h g) where
  -- a program wants words enough for the parts of the work memory: words and sets of four words for each node, marks,
  -- two sets of entries, and call places
  pub wanted : (t : ℕ) → t ≡ h.table → 8 * t + 33 * (t / 1024 + 1) + 256 + steps g.procs ≤ wants g
  wanted t i =
      let T = total g.shared g.procs in
      omega (arith, i, r.header.table, mul-add T 8 (2 ^ g.shared), le-mul_of_pos_right {m = 2 ^ g.shared} T (pow_pos g.shared), steps_total g.shared g.procs, steps_few g.shared (length g.procs) g.procs r.reads.procs, r.reads.most)

  pub nodes_small : h.table ≤ 67108864
  nodes_small = omega (arith, r.header.table, small r)

  -- the parts of the table begin where its procedures do
  pub parts : (bases table : List ℕ) → length bases ≡ h.procs → length table ≡ h.table → Based s h bases → Parts bases (length bases) (length table)
  parts bases table long whole b =
      let n = r.header.procs in
      let at : (f : ℕ) → f < length bases → get_or bases f 0 ≡ before g.shared g.procs f = λ f l. (b g r f (omega arith)).1 in
      record {
        some = omega (arith, r.reads.some);
        listed = omega arith;
        first = at 0 (omega (arith, r.reads.some)) ∙ before_none g.shared g.procs;
        order = λ f l.
            let q = nth_some g.procs f (omega arith) in
            omega (arith, at f (omega arith), at (f + 1) l, before_next g.shared g.procs f q.0 q.1);
        last = λ f l. omega (arith, at f l, before_le g.shared g.procs f, whole, r.header.table);
      }

nth_get_or : (t : List ℕ) (i : ℕ) → i < length t → nth t i ≡ some (get_or t i 0)
nth_get_or [] i l = absurd (omega arith)
nth_get_or (x ∷ t) zero l = refl
nth_get_or (x ∷ t) (suc i) l = nth_get_or t i (omega arith)

pub table_of : (s : List ℕ) (h : Header) (sets t : List ℕ) → Solved s h sets → Written sets 0 t (length t) → (g : Prog) → Headed s h g → length t ≡ total g.shared g.procs → Table g t
table_of s h sets t solved written g r long = record {
  long = long;
  tells = λ f a p sh own e l m k.
      let w = good r.reads in
      let fits : Fits g f p a sh own = record { there = e; place = l; shareds = m; owns = k } in
      let i = spot g f p a sh own in
      let small : i < total g.shared g.procs = spot_lt fits in
      let c = can_iff w fits in
      let q = solved g r i small in
      let tell : Tells sets i (get_or t i 0) = subst (λ z. Tells sets z (get_or t i 0)) (omega arith) (written i (omega arith)) in
      let both : (get_or t i 0 < 2) × (Can g f a sh own ↔ (get_or t i 0 ≡ 1)) = elim tell [
        | inl x ↦ (omega (arith, x.0), ((λ y. x.0), (λ y. c.1 (q.0 x.1))))
        | inr x ↦ (omega (arith, x.0), ((λ y. absurd (x.1 (q.1 (c.0 y)))), (λ y. absurd (omega (arith, x.0)))))
      ] in
      (get_or t i 0, nth_get_or t i (omega arith), both.0, both.1);
}
