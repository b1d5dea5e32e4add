-- `visit_call`: the entry of the procedure called, then what follows its returns.
use Rattle.std.proofs.Common.{◌||◌, refl}
use Rattle.saturation.proofs.Draining.{kept_both}
use Rattle.saturation.proofs.Visiting.{visit_call}
use Rattle.saturation.proofs.engine.Engine.visit_call.Goals as goal

pub returns : goal.returns
returns c = let p = c.requires.is in let a = c.insert.ensures in let b = c.resume.ensures in record {
  kept = kept_both a.kept b.kept;
  new = a.new || b.new;
  visit = visit_call c.args.self.now.ready.fine c.args.n c.requires.within p.0 (c.if-is_empty.ensures.no refl) (rw p.1 at a.added) a.grew (rw p.1 at a.marked) (rw a.kept.system at b.resume);
}
