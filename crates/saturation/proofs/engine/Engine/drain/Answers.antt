-- `drain`: each turn takes a mark away, and visits the node if it is one.
use Rattle.std.proofs.Common.{refl}
use Rattle.saturation.proofs.Draining.{still_of, drain_less, drained_visit, drained_pass}
use Rattle.saturation.proofs.engine.Engine.drain.Goals as goal

pub loop-n-smaller-then-n-self : goal.loop-n-smaller-then-n-self
loop-n-smaller-then-n-self c = drain_less c.loop-n.invariant (still_of refl refl refl refl) c.in-Some.ensures _ refl c.visit.ensures

pub loop-n-preserved-then-n-self : goal.loop-n-preserved-then-n-self
loop-n-preserved-then-n-self c = drained_visit c.loop-n.invariant (still_of refl refl refl refl) c.in-Some.ensures c.visit.ensures

pub loop-n-preserved : goal.loop-n-preserved
loop-n-preserved c = drained_pass c.loop-n.invariant (still_of refl refl refl refl) c.in-Some.ensures c.if-n-self.false
