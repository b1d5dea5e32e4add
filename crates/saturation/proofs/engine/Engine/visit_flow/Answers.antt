-- `visit_flow`: one successor, then the other.
use Rattle.std.proofs.Common.{◌||◌}
use Rattle.saturation.proofs.Draining.{kept_both}
use Rattle.saturation.proofs.Visiting.{visit_flow}
use Rattle.saturation.proofs.engine.Engine.visit_flow.Goals as goal

pub returns : goal.returns
returns c = let p = c.requires.is in let a = c.propagate.ensures in let b = c.propagate-2.ensures in record {
  kept = kept_both a.kept b.kept;
  new = a.new || b.new;
  visit = visit_flow c.args.self.now.ready.fine c.args.n c.requires.within p.0 (rw p.1 at a.joined) a.grew (rw p.1 at a.marked) (rw p.2 at b.joined) b.grew (rw p.2 at b.marked);
}
