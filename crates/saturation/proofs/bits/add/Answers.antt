-- `add`: one bit of one word.
use Rattle.std.proofs.Common.{rules}
use Rattle.saturation.proofs.Nodes.{add_added}
use Rattle.saturation.proofs.bits.add.Goals as goal

pub returns : goal.returns
returns c = search (rules, add_added)
