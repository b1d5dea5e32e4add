-- `sweep`: all bits are true, and each node is closed or marked; at the end none is marked.
use Rattle.std.proofs.Common.{refl, arith}
use Rattle.saturation.proofs.Draining.{still_of, sweep_kept, sweep_begun, sweep_size, swept}
use Rattle.saturation.proofs.engine.Engine.sweep.Goals as goal

pub loop-word-preserved : goal.loop-word-preserved
loop-word-preserved c = let o = c.loop-word.invariant in let t = c.in-Some.ensures.taken in let d = c.drain.ensures.drained in (
  sweep_kept o.0 (still_of refl refl refl refl) t d,
  sweep_size o.0 (still_of refl refl refl refl) t d o.1,
  omega (arith, t.within.1, t.size.words, d.size.words),
  sweep_begun o.0 (still_of refl refl refl refl) t d o.3 c.drain.ensures.empty,
)

pub returns-clause-tells : goal.returns-clause-tells
returns-clause-tells c = swept c.args.self.now.ready.fine c.loop-word.invariant.3 c.in_default.ensures.taken
