-- A node has entries exactly if its number is reached: the engine's answer, in words of numbers.
use Rattle.std.proofs.Common.{◌≡◌, ℕ, ◌*◌, ◌%◌, ◌^◌, ◌<◌, ◌≤◌, ◌↔◌, List, length, take, length-take, sym, refl, ap, ◌∙◌, subst, arith, pow_mono}
use Rattle.std.proofs.lemmas.List.{get_or-take}
use Rattle.std.proofs.lemmas.Nat.{pow_pos, mod_below}
use Rattle.pushdown.specs.System as pushdown
use Rattle.pushdown.proofs.Runs.{reached_is}
use Rattle.saturation.specs.System.{Fine, Sited, Starts, Tells}
use Rattle.program.specs.Program.{call, Prog}
use Rattle.program.specs.declared.programs.Header.{Header}
use Rattle.program.specs.Table.{total}
use Rattle.program.specs.Numbers.{numbered}
use Rattle.program.specs.WellFormed.{Good}
use Rattle.program.proofs.Kept.{good, ok_step}
use Rattle.expansion.specs.Words.{Upto}
use Rattle.expansion.specs.Programs.{Headed, Expanded}
use Rattle.expansion.specs.Sites.{CallPlace, SitesAre}
use Rattle.expansion.specs.Listing.{SitesListed}
use Rattle.places.specs.Solving.{Entries, Solved}
use Rattle.places.specs.Solutions.{Settled}
use Rattle.places.proofs.Bridge.{inside_from, inside_back, entered_from, entered_back, fine, sited, starts_at}

module _ (g : Prog) (starts w : List ℕ) (ok : Good g) (few : g.shared ≤ 6) (u : Upto g starts w (total g.shared g.procs)) where
  pub solved : (sets : List ℕ) → Tells w (2 ^ g.shared) (total g.shared g.procs) 0 sets → (n : ℕ) → n < total g.shared g.procs → Entries sets n ↔ ((bs : List ℕ) × pushdown.Reached (numbered g) 0 n bs)
  solved sets t n l = (
    λ h.
        let c = (t.inside n h.0 l h.1).0 h.2 in
        let e = entered_back g starts w ok few u (starts_at g starts w ok few u).within c.2 in
        let i = inside_back g starts w ok few u e.1 c.3 in
        reached_is.1 (c.0, e.0, i.0),
    λ h.
        let r = reached_is.0 h in
        let K = 2 ^ g.shared in
        let small : r.0 % K < 64 = omega (arith, mod_below r.0 K (pow_pos g.shared), pow_mono {i = g.shared} {j = 6} few) in
        (r.0 % K, small, (t.inside n (r.0 % K) l small).1 (r.0, refl, entered_from g starts w ok few u r.1, inside_from g starts w ok few u r.2)),
  )

-- the part of the words that is filled is the list
pub listed_cut : {s : List ℕ} {h : Header} {starts sites : List ℕ} {count : ℕ} → SitesListed s h starts sites count → SitesListed s h starts (take count sites) (length (take count sites))
listed_cut {sites = sites} {count = count} l g r =
    let si = l g r in
    let long : length (take count sites) ≡ count = simp length-take (omega (arith, si.within)) in
    record {
      within = omega arith;
      order = λ d o. ((si.order d o).0, omega (arith, (si.order d o).1, long));
      each = λ i o. let x = si.each i (omega (arith, long)) in (x.0, subst (CallPlace g x.0) (sym (get_or-take count sites i 0 (omega (arith, long)))) x.1);
      all = λ f p a d t c.
          let x = si.all f p a d t c in
          let m = si.order d (ok_step (good r.reads) f p a (call d) t c) in
          (x.0, x.1, x.2, get_or-take count sites x.0 0 (omega (arith, x.2, m.1)) ∙ x.3);
    }

-- what the engine asks, and what it tells, with the header's numbers
module _ {s : List ℕ} {h : Header} (g : Prog) (r : Headed s h g) (starts w : List ℕ) (x : Expanded s h starts w) (k : ℕ) (ke : k ≡ 2 ^ h.shared) where
  shared_is : k ≡ 2 ^ g.shared
  shared_is = ke ∙ ap (λ z. 2 ^ z) r.header.shared

  pub fine_at : length w ≡ 4 * total g.shared g.procs → Fine w k h.table
  fine_at long = subst (λ z. Fine w z h.table) (sym shared_is) (subst (Fine w (2 ^ g.shared)) (sym r.header.table) (fine g starts w (good r.reads) r.reads.few (x g r) long))

  pub sited_at : (c : List ℕ) → SitesAre g starts c (length c) → Sited w k h.table c
  sited_at c si = subst (λ z. Sited w z h.table c) (sym shared_is) (subst (λ z. Sited w (2 ^ g.shared) z c) (sym r.header.table) (sited g starts w (good r.reads) r.reads.few (x g r) c si))

  pub starts_root : Starts w k h.table 0
  starts_root = subst (λ z. Starts w z h.table 0) (sym shared_is) (subst (λ z. Starts w (2 ^ g.shared) z 0) (sym r.header.table) (starts_at g starts w (good r.reads) r.reads.few (x g r)))

  pub told_at : (sets : List ℕ) → Tells w k h.table 0 sets → Tells w (2 ^ g.shared) (total g.shared g.procs) 0 sets
  told_at sets t = subst (λ z. Tells w (2 ^ g.shared) z 0 sets) r.header.table (subst (λ z. Tells w z h.table 0 sets) shared_is t)

-- all that settling leaves, from what each of its calls does
pub settled_by : {s : List ℕ} {h : Header} {starts w sites sets : List ℕ} {k : ℕ} → Expanded s h starts w → k ≡ 2 ^ h.shared → SitesListed s h starts sites (length sites) → Tells w k h.table 0 sets → Settled s h starts w sites (length sites) sets
settled_by x ke l t = λ g r. record { expanded = x g r; listed = l g r; told = told_at g r _ _ x _ ke _ t }

-- what settling leaves tells which numbers are reached
pub solved_by : {s : List ℕ} {h : Header} {starts w sites sets : List ℕ} {count : ℕ} → Settled s h starts w sites count sets → Solved s h sets
solved_by x = λ g e. let y = x g e in solved g _ _ (good e.reads) e.reads.few y.expanded _ y.told
