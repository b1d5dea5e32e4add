-- `join`: two words, one after the other.
use Rattle.std.proofs.Common.{rules}
use Rattle.saturation.proofs.Nodes.{grew_both, join_joined}
use Rattle.saturation.proofs.bits.join.Goals as goal

pub returns : goal.returns
returns c = search (rules, grew_both, join_joined)
