use Rattle.std.proofs.Common.{◌+◌, ◌*◌, ℕ, length}
use Rattle.text.specs.Cursor.{GoesOn}
use Rattle.text.specs.declared.expressions.Operator.{Operator}
use Rattle.text.specs.declared.expressions.Operator.TheVariants.{And, Or}
use Rattle.text.proofs.reader.Reader.+expressions.Given as goal

-- the looser an operator, the higher
abbrev pub height : Operator → ℕ
height And = 0
height Or = 2

-- each level calls the next tighter one, and parentheses lower the depth
abbrev pub decreases-chain : goal.decreases-chain
decreases-chain l = 7 * l.depth + height l.operator + 4

abbrev pub decreases-part : goal.decreases-part
decreases-part l = 7 * l.depth + height l.operator + 3

abbrev pub decreases-comparison : goal.decreases-comparison
decreases-comparison l = 7 * l.depth + 2

abbrev pub decreases-operand : goal.decreases-operand
decreases-operand l = 7 * l.depth + 1

abbrev pub decreases-primary : goal.decreases-primary
decreases-primary l = 7 * l.depth

abbrev pub invariant-chain-loop-whole : goal.invariant-chain-loop-whole
invariant-chain-loop-whole l = GoesOn l.fn.self.cursor l.self.cursor

abbrev pub decreases-chain-loop-whole : goal.decreases-chain-loop-whole
decreases-chain-loop-whole l = length l.self.cursor.rest.now
