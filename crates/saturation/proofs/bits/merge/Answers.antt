-- `merge`: the word has the bits of both.
use Rattle.std.proofs.Common.{arith}
use Rattle.saturation.proofs.Words.{merge_grew, merge_merged}
use Rattle.saturation.proofs.bits.merge.Goals as goal

pub returns : goal.returns
returns c = record { merged = merge_merged c.args.table.now c.args.i c.args.bits c.requires; grew = merge_grew c.args.table.now c.args.i c.args.bits c.requires (omega arith) }
