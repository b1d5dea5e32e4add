-- `revisit_callers`: the places that call the procedure, one after the other.
use Rattle.std.proofs.Common.{arith}
use Rattle.saturation.proofs.Sites.{sites_more, sites_all}
use Rattle.saturation.proofs.Draining.{still_both}
use Rattle.saturation.proofs.engine.Engine.revisit_callers.Goals as goal

pub loop-site-preserved : goal.loop-site-preserved
loop-site-preserved c = let v = c.revisit_place.ensures in let s = still_both c.loop-site.invariant.0 v.still in let p = c.place.ensures in let o = c.loop-site.invariant.0 in
    (s, sites_more c.loop-site.site c.loop-site.invariant.1 (rw p.begin at rw p.end at rw o.same at rw o.kept.system at v.revisited))

pub returns-clause-marked : goal.returns-clause-marked
returns-clause-marked c = let s = c.loop-site.invariant.0 in let p = c.requires.is in let r = c.args.self.now.ready in
    rw s.same (sites_all c.args.q c.args.x c.loop-site.site c.requires.within p.0 c.requires.value (omega (arith, p.2, c.loop-site-test.false)) r.fine r.listed (rw p.1 at c.loop-site.invariant.1))
