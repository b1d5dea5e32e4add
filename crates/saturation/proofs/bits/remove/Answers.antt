-- `remove`: one bit of one word.
use Rattle.std.proofs.Common.{arith}
use Rattle.std.proofs.lemmas.Nat.{one_shl}
use Rattle.saturation.proofs.Removing.{removed}
use Rattle.saturation.proofs.bits.remove.Goals as goal

pub returns : goal.returns
returns c = removed c.args.table.now c.args.n c.args.x _ c.requires.within.1 c.requires.within.0 c.requires.is (omega arith) (one_shl _ 32 (omega arith))
