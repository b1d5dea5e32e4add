-- `revisit_place`: the nodes of the place with one shared value, as far apart as there are shared values.
use Rattle.std.proofs.Common.{arith}
use Rattle.saturation.proofs.Sites.{place_none, place_more}
use Rattle.saturation.proofs.Draining.{still_none, still_both}
use Rattle.saturation.proofs.engine.Engine.revisit_place.Goals as goal

pub loop-n-init : goal.loop-n-init
loop-n-init c = (still_none _, place_none c.args.self.now.system.shared c.args.self.now.sets.now c.args.self.now.marks.now c.args.place.start c.args.x c.requires.value c.requires.even)

pub loop-n-preserved : goal.loop-n-preserved
loop-n-preserved c = let v = c.revisit.ensures in
    (still_both c.loop-n.invariant.0 v.still, place_more c.loop-n.n (omega arith) c.loop-n.invariant.1 (rw c.loop-n.invariant.0.same at v.revisited))

pub returns-2-clause-revisited : goal.returns-2-clause-revisited
returns-2-clause-revisited c = let p = place_more c.loop-n.n (omega arith) c.loop-n.invariant.1 (rw c.loop-n.invariant.0.same at c.revisit.ensures.revisited) in
    record { kept = p.kept; got = λ j a b. p.got j a (omega arith) }
