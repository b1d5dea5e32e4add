-- A solved program can be ranked, and its rank is the greatest number that can wait: chains of calls in the words
-- are chains on its numbers, and these are as long as the stacks of its runs.
use Rattle.std.proofs.Common.{◌≡◌, ℕ, ◌+◌, ◌*◌, ◌/◌, ◌%◌, ◌^◌, ◌<◌, ◌≤◌, List, ◌++◌, length, get_or, Some, None, Option, sym, ap, ◌∙◌, subst, arith}
use Rattle.std.proofs.lemmas.List.{get_or_append_left}
use Rattle.saturation.specs.Bits.{Bit}
use Rattle.saturation.specs.System.{Fine, Starts, TellsInside}
use Rattle.saturation.proofs.Nodes.{half}
use Rattle.ranking.specs.Calls.{Aligned, Grouped}
use Rattle.ranking.specs.Ranks.{Ranked}
use Rattle.program.specs.Program.{Prog}
use Rattle.program.specs.Table.{total}
use Rattle.program.specs.WellFormed.{Good}
use Rattle.program.proofs.Kept.{good}
use Rattle.program.proofs.Sizes.{before_none}
use Rattle.program.proofs.Proved.{at_most, endless}
use Rattle.places.specs.Says.{Measured}
use Rattle.expansion.specs.Programs.{Headed}
use Rattle.places.specs.declared.given.Program.{Program}
use Rattle.places.specs.declared.settling.Saturated.{Saturated}
use Rattle.places.specs.Settling.{Filled}
use Rattle.places.specs.Solutions.{Solution}
use Rattle.places.proofs.Bridge.{fine, starts_at, aligned, grouped, chain_from, chain_back}

-- the sets of entries stand first
inside_front : (g : List ℕ) (k t root : ℕ) (w front back : List ℕ) → w ≡ front ++ back → 2 * t ≤ length front → TellsInside g k t root w → TellsInside g k t root front
unfolding Bit
inside_front g k t root w front back e long told n x h b =
    let i = 2 * n + x / 32 in
    let same : get_or w i 0 ≡ get_or front i 0 = ap (λ z. get_or z i 0) e ∙ get_or_append_left front back 0 i (omega (arith, half x b)) in
    let o = told n x h b in ((λ q. o.0 (ap (λ z. z / 2 ^ (x % 32) % 2) same ∙ q)), (λ c. ap (λ z. z / 2 ^ (x % 32) % 2) (sym same) ∙ o.1 c))

module _ {p : Program} {r : Saturated} {g : Prog} (e : Headed p.bytes.now p.header g) (x : Filled p r) where
  abbrev K : ℕ
  K = 2 ^ g.shared

  abbrev T : ℕ
  T = total g.shared g.procs

  abbrev w : List ℕ
  w = r.system.graph.now

  abbrev root : ℕ
  root = get_or r.procedures.bases.now 0 0

  ok : Good g
  ok = good e.reads

  solution : Solution g r.procedures.starts.now w r.system.sites.now (length r.system.sites.now) r.sets.now
  solution = x.settled g e

  shared_is : r.system.shared ≡ K
  shared_is = x.shared ∙ ap (λ z. 2 ^ z) e.header.shared

  -- with the answer's numbers
  moved : (P : ℕ → ℕ → Type 0) → P K T → P r.system.shared r.system.nodes
  moved P p = subst (λ z. P z r.system.nodes) (sym shared_is) (subst (P K) (sym (x.nodes ∙ e.header.table)) p)

  root_is : root ≡ 0
  root_is = (x.based g e 0 e.reads.some).1 ∙ before_none g.shared g.procs

  pub fine_here : Fine w r.system.shared r.system.nodes
  fine_here = moved (Fine w) (fine g r.procedures.starts.now w ok e.reads.few solution.expanded (omega (arith, x.words_long, e.header.table)))

  pub aligned_here : Aligned w r.system.shared r.system.nodes
  aligned_here = moved (Aligned w) (aligned g r.procedures.starts.now w ok e.reads.few solution.expanded)

  pub starts_here : Starts w r.system.shared r.system.nodes root
  starts_here = subst (Starts w r.system.shared r.system.nodes) (sym root_is) (moved (λ a b. Starts w a b 0) (starts_at g r.procedures.starts.now w ok e.reads.few solution.expanded))

  pub grouped_here : Grouped w r.system.shared r.system.nodes r.system.sites.now r.procedures.bases.now r.procedures.starts.now
  grouped_here =
      let n : length r.procedures.bases.now ≡ length g.procs = x.bases_long ∙ e.header.procs in
      moved (λ a b. Grouped w a b r.system.sites.now r.procedures.bases.now r.procedures.starts.now) (grouped g r.procedures.starts.now w ok e.reads.few solution.expanded r.system.sites.now solution.listed r.procedures.bases.now n (x.based g e) (omega (arith, x.bases_long, x.starts_long)) (omega (arith, n, e.reads.most)))

  pub told_here : (front back : List ℕ) → r.sets.now ≡ front ++ back → length front ≡ 2 * r.system.nodes → TellsInside w r.system.shared r.system.nodes root front
  told_here front back q l = inside_front w r.system.shared r.system.nodes root r.sets.now front back q (omega arith) (subst (λ z. TellsInside w r.system.shared r.system.nodes z r.sets.now) (sym root_is) (moved (λ a b. TellsInside w a b 0 r.sets.now) solution.told.inside))

  pub measured : (o : Option ℕ) → Ranked w r.system.shared root o → Measured g o
  measured o q = go o (subst (λ z. Ranked w z 0 o) shared_is (subst (λ z. Ranked w r.system.shared z o) root_is q))
    where
      in_table : 0 < T
      in_table = (starts_at g r.procedures.starts.now w ok e.reads.few solution.expanded).within

      go : (o : Option ℕ) → Ranked w K 0 o → Measured g o
      go (Some d) p = at_most ok (chain_back g r.procedures.starts.now w ok e.reads.few solution.expanded in_table p.0) (λ m c. p.1 m (chain_from g r.procedures.starts.now w ok e.reads.few solution.expanded c))
      go None p = endless ok (λ d. chain_back g r.procedures.starts.now w ok e.reads.few solution.expanded in_table (p d))
