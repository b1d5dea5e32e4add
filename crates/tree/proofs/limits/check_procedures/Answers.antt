use Rattle.std.proofs.Common.{map, length, vec_items, subst}
use Rattle.std.proofs.lemmas.Result.{err_from_is_err_and}
use Rattle.program.specs.Rows.{OkP, Every}
use Rattle.tree.specs.Meaning.{meaning_p}
use Rattle.tree.proofs.Rest.{rest_p_more}
use Rattle.tree.proofs.Fitting.{left_more, left_not}
use Rattle.tree.proofs.limits.check_procedures.Goals as goal

pub returns-in_err-check_procedure : goal.returns-in_err-check_procedure
returns-in_err-check_procedure c =
    let p = err_from_is_err_and c.from_residual.result c.from_residual.ensures.1 in
    rw p.1 (subst (λ ps. Every (OkP c.args.tree.now.shared (length (vec_items c.args.tree.now.procedures))) (map meaning_p ps) → ⊥) c.deref-procedure-items.ensures.value (left_not c.loop-i.invariant (rest_p_more _ c.loop-i.i c.procedure-item.result c.loop-i-test.true c.procedure-item.is) c.in_err-check_procedure.ensures))

pub loop-i-preserved : goal.loop-i-preserved
loop-i-preserved c = left_more c.loop-i.invariant (rest_p_more _ c.loop-i.i c.procedure-item.result c.loop-i-test.true c.procedure-item.is) c.in_ok-check_procedure.ensures
