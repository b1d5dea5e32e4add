-- `visit_return`: the entries that can be inside, one after the other.
use Rattle.std.proofs.Common.{◌||◌, refl, arith, below_more}
use Rattle.saturation.proofs.Draining.{kept_both}
use Rattle.saturation.proofs.Closure.{ReturnClosed}
use Rattle.saturation.proofs.Visiting.{return_progress}
use Rattle.saturation.proofs.engine.Engine.visit_return.Goals as goal
use Rattle.saturation.proofs.engine.Engine.visit_return.Goals.{then-has, else-has}

pub loop-x-preserved : goal.loop-x-preserved
loop-x-preserved c = let o = c.loop-x.invariant in elim c.if-has.branch [
  | then-has w ↦ let v = w.add_return.ensures in let r = return_progress c.args.self.now.ready.fine c.args.n c.requires.within c.loop-x.x (omega arith) c.requires.is.0 (w.if-has.ensures.yes refl) (rw o.kept.system at v.added) v.grew (rw o.kept.system at v.callers) (o.progress, o.closed) in
      simp w.self-is (record { kept = kept_both o.kept v.kept; new = o.new || v.new; progress = r.0; closed = r.1 })
  | else-has w ↦ simp w.self-is (record { kept = o.kept; new = o.new; progress = o.progress; closed = below_more (λ j. ReturnClosed c.args.self.now.system.graph.now c.args.self.now.system.shared c.args.self.now.system.nodes c.args.n j c.loop-x.self.sets.now) c.loop-x.x o.closed (λ h. absurd (w.if-has.ensures.no refl h)) })
]
