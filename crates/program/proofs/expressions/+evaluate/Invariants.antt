use Rattle.std.proofs.Common.{◌-◌, length}
use Rattle.program.proofs.expressions.+evaluate.Given as goal

abbrev pub decreases-evaluate : goal.decreases-evaluate
decreases-evaluate l = length l.bytes.now - l.at
