use Rattle.std.proofs.Common.{◌-◌, length}
use Rattle.program.proofs.expressions.+read_expression.Given as goal

abbrev pub decreases-read-expression : goal.decreases-read-expression
decreases-read-expression l = length l.bytes.now - l.at
