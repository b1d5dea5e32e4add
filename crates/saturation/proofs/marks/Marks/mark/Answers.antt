-- `mark`: the node's bit, then the bit of its word.
use Rattle.std.proofs.Common.{sym}
use Rattle.saturation.proofs.Marking.{mark_marked}
use Rattle.saturation.proofs.marks.Marks.mark.Goals as goal

pub returns : goal.returns
returns c = rw (sym c.self.view_is) (mark_marked c.args.n c.set.ensures c.set-2.ensures c.set.auto.words c.set-2.auto.words)
