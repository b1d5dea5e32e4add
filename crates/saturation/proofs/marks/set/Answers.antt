-- `set`: one bit of one word.
use Rattle.saturation.proofs.Marking.{set_set}
use Rattle.saturation.proofs.marks.set.Goals as goal

pub returns : goal.returns
returns c = set_set c.args.n c.merge.ensures.merged c.merge.ensures.grew.kept
