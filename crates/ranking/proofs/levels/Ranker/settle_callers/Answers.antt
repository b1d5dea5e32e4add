-- `settle_callers`: call place after call place; each call of the procedure stands in one of them.
use Rattle.std.proofs.Common.{◌≡◌, ◌+◌, ◌≤◌, get_or, arith, below_more}
use Rattle.ranking.specs.Levels.{Taken, InPlace}
use Rattle.ranking.proofs.Facts.{facts}
use Rattle.ranking.proofs.Steps.{before, step_then}
use Rattle.ranking.proofs.Passing.{base_even, value_is}
use Rattle.ranking.proofs.levels.Ranker.settle_callers.Goals as goal

pub loop-site-preserved : goal.loop-site-preserved
loop-site-preserved c =
    let i = c.loop-site.invariant in
    let r = c.args.self.now in
    let b = c.args.begun in
    let e = c.settle_place.ensures in
    let d = get_or r.procedures.bases.now b.procedure 0 + b.value in (
      step_then i.0 (λ x. before i.0 (λ y p l. x ≡ get_or p.bases.now b.procedure 0 + b.value)) e.settles,
      below_more (λ s. get_or r.procedures.starts.now b.procedure 0 ≤ s → Taken r.system.graph.now r.system.shared r.system.nodes c.settle_place.new.self.sets.now (λ n. InPlace r.system.graph.now r.system.shared r.system.sites.now d s n)) c.loop-site.site
          (λ s h l n x hn kn q hx o. i.1 s h l n x hn kn q hx (e.settles.settles.fewer n x o))
          (λ l. before i.0 (λ y p m. Taken y.graph.now y.shared y.nodes c.settle_place.new.self.sets.now (λ n. InPlace y.graph.now y.shared y.sites.now (get_or p.bases.now b.procedure 0 + b.value) c.loop-site.site n)) e.gone),
    )

pub returns-clause-gone : goal.returns-clause-gone
returns-clause-gone c n x hn kn q hx o =
    let f = c.args.begun.procedure in
    let k = facts c.args.self.now.known in
    let v = value_is k.countable.fine _ _ n (base_even k f c.requires.0) c.requires.1 hn kn q in
    k.all f n c.requires.0 hn kn v.0 (λ s a b d e. c.loop-site.invariant.1 s (omega (arith, b, c.loop-site-test.false)) a n x hn kn (d, e, q) hx o)
