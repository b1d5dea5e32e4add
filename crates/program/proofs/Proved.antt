-- The laws of programs: each from the theory of pushdown systems, by the program's system or by its numbers.
use Rattle.std.proofs.Common.{◌≡◌, ℕ, suc, ◌<◌, ◌≤◌, ◌↔◌, length, sym, refl, ap, ◌∙◌, subst, inl, inr, ⊎_elim, arith}
use mathlib.Core.Logic.Dec
use lib.ListN.{length-map}
use Rattle.pushdown.specs.System as pushdown
use Rattle.pushdown.proofs.Runs.{returns_is, least, reached_is, depth_is}
use Rattle.pushdown.proofs.Decide.{chains?, reached?}
use Rattle.program.specs.Program.{Prog, St}
use Rattle.program.specs.Runs.{Reached}
use Rattle.program.specs.Table.{total}
use Rattle.program.specs.WellFormed.{Good}
use Rattle.program.specs.Systems.{Node, state, node, resumed, system}
use Rattle.program.specs.Numbers.{numbered}
use Rattle.program.specs.Laws.{Summaries, LeastSummaries, ReachedByEntries, ReachedByNumbers, Told, WaitsByCalls, BoundedOrNot, SmallTable, Laws}
use Rattle.program.proofs.Prefix.{one_program}
use Rattle.program.proofs.Sizes.{total_small}
use Rattle.program.proofs.Kept.{good, begin_ok}
use Rattle.program.proofs.Below.{below_is_nothing, nor_from_below, to_run, from_run, to_above, from_above}
use Rattle.program.proofs.Numbered.{code, codes, code_frame, begin_code, top_loc, to_numbers, from_numbers, can_iff}
use Rattle.program.proofs.Targets.{loc_lt}
use Rattle.program.proofs.Finite.{finite, in_table}

summaries : Summaries
summaries g e sh f fs = (
  λ k. let h = (returns_is (system g) f fs).0 (to_above k) in subst (pushdown.Returns (system g) e) (sym (ap (λ (n : Node). n.shared) h.2)) h.1,
  λ h. from_above ((returns_is (system g) f fs).1 (sh, h, refl)),
)

least_summaries : LeastSummaries
least_summaries g table c e n i = least c i

reached_by_entries : ReachedByEntries
reached_by_entries g f a sh own = (
  λ c.
      let s = c.0 in
      let e : node s ≡ resumed (record { proc = f; at = a; vars = own }) sh = λ i. record { shared = c.4 i; frame = record { proc = c.2 i; at = c.3 i; vars = c.5 i } } in
      let h = reached_is.0 (s.below, to_run c.1) in
      (h.0, h.1, subst (pushdown.Inside (system g) h.0) e h.2),
  λ h. let r = reached_is.1 h in (_, from_run r.1, refl, refl, refl, refl),
)

reached_by_numbers : ReachedByNumbers
reached_by_numbers s g r f p a sh own h = can_iff (good r) h

-- the first node is in the table
root_in : {g : Prog} → Good g → 0 < total g.shared g.procs
root_in {g} w = subst (λ n. n < total g.shared g.procs) (begin_code w) (loc_lt (top_loc w (begin_ok w)))

told : Told
told s g r f p a sh own h =
    let w = good r in
    let c = can_iff w h in
    Dec.of_iff (c.1, c.0) (reached? (numbered g) (finite g w) 0 (in_table g w 0 (root_in w)) _)

pub waits_by_calls : WaitsByCalls
waits_by_calls g d = (λ h. depth_is.0 (node h.0, h.0.below, to_run h.1, h.2), λ c. let k = depth_is.1 c in (state k.0 k.1, from_run k.2, k.3))

-- the same on numbers, where it can be told
waits_on_numbers : {g : Prog} → Good g → (d : ℕ) → ((t : St) × Reached g t × (length t.below ≡ d)) ↔ pushdown.Chain (numbered g) 0 d
waits_on_numbers {g} w d = (
  λ h. depth_is.0 (code g h.0, codes g h.0.below, to_numbers w h.1, length-map h.0.below (code_frame g) ∙ h.2),
  λ c. let k = depth_is.1 c in let q = from_numbers w k.2 in (q.s, q.reached, sym (length-map q.s.below (code_frame g)) ∙ ap length q.below_is ∙ k.3),
)

module _ {g : Prog} (w : Good g) where
  pub at_most : {d : ℕ} → pushdown.Chain (numbered g) 0 d → ((m : ℕ) → pushdown.Chain (numbered g) 0 m → m ≤ d) → ((t : St) × Reached g t × (length t.below ≡ d)) × ((t : St) → Reached g t → length t.below ≤ d)
  at_most {d} c most = ((waits_on_numbers w d).1 c, λ t q. most (length t.below) ((waits_on_numbers w (length t.below)).0 (t, q, refl)))

  pub endless : ((d : ℕ) → pushdown.Chain (numbered g) 0 d) → (d : ℕ) → (t : St) × Reached g t × (d < length t.below)
  endless f d = let k = (waits_on_numbers w (suc d)).1 (f (suc d)) in (k.0, k.1, omega (arith, k.2))

bounded_or_not : BoundedOrNot
bounded_or_not s g r =
    let w = good r in
    ⊎_elim (λ h. let m = at_most w h.chain h.bound in inl (h.most, m.0, m.1)) (λ f. inr (endless w f)) (chains? (numbered g) (finite g w) 0 (in_table g w 0 (root_in w)))

small_table : SmallTable
small_table s g r = omega (arith, total_small g.shared (length g.procs) g.procs r.few r.procs, r.most)

pub laws : Laws
laws = record {
  one_program = one_program;
  below_is_nothing = below_is_nothing;
  nor_from_below = nor_from_below;
  summaries = summaries;
  least_summaries = least_summaries;
  reached_by_entries = reached_by_entries;
  reached_by_numbers = reached_by_numbers;
  told = told;
  bounded_or_not = bounded_or_not;
  small_table = small_table;
}
