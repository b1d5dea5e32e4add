use Rattle.std.proofs.Common.{◌+◌}
use Rattle.tree.proofs.Sizing.{size_e}
use Rattle.tree.proofs.writing.+write_equal_write_expr.Given as goal

-- each expression that is written is shorter than the one that it is written for
abbrev pub decreases-write_equal : goal.decreases-write_equal
decreases-write_equal l = size_e l.left.now + size_e l.right.now

abbrev pub decreases-write_expr : goal.decreases-write_expr
decreases-write_expr l = size_e l.expr.now
