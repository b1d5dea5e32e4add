use Rattle.std.proofs.Common.{inl, inr, arith}
use Rattle.std.proofs.lemmas.Result.{err_from_is_err_and}
use Rattle.program.proofs.ReadingExpr.{no_expr, is_var}
use Rattle.program.proofs.expressions.+read_expression.Goals as goal

pub returns-in_err-kind : goal.returns-in_err-kind
returns-in_err-kind t c = let p = err_from_is_err_and c.from_residual.result c.from_residual.ensures.1 in rw p.1 (no_expr _ _ _ {P = λ b. Unit {0}} (inl c.in_err-kind.ensures))

pub returns-in_ok-_var-in-1 : goal.returns-in_ok-_var-in-1
returns-in_ok-_var-in-1 t c = is_var _ _ _ _ c.in_ok-kind.ensures _ c.in-1.is c.in_ok-_var-in-1.ensures

pub returns-in_default : goal.returns-in_default
returns-in_default t c = no_expr _ _ _ {P = λ b. Unit {0}} (inr (_, c.in_ok-kind.ensures, (omega arith, tt)))
