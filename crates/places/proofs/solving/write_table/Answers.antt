use Rattle.std.proofs.Common.{sym, subst}
use Rattle.places.specs.Solving.{Parts}
use Rattle.places.proofs.Bytes.{parted_more}
use Rattle.places.proofs.solving.write_table.Goals as goal

pub loop-base-preserved : goal.loop-base-preserved
loop-base-preserved c =
    (tt, tt, parted_more _ _ (subst (Parts c.args.bases.now _) (sym c.loop-base.auto.table) c.requires.parts) c.loop-base.invariant.2 c.in-Some.ensures.steps _ c.write_part.auto.part c.write_part.ensures)
