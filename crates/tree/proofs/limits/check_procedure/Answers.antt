use Rattle.std.proofs.Common.{◌∙◌, arith}
use Rattle.std.proofs.lemmas.Result.{err_from_is_err_and}
use Rattle.tree.proofs.Rest.{body_long}
use Rattle.tree.proofs.Fitting.{procedure_fits}
use Rattle.tree.proofs.limits.check_procedure.Goals as goal

pub returns-in_err-check_most-2 : goal.returns-in_err-check_most-2
returns-in_err-check_most-2 c =
    let p = err_from_is_err_and c.from_residual-in_err-check_most-2.result c.from_residual-in_err-check_most-2.ensures.1 in
    rw p.1 (λ ok. let short = ok.short in omega (arith, body_long c.args.procedure.now, c.in_err-check_most-2.ensures))

pub returns : goal.returns
returns c = procedure_fits _ _ c.args.procedure.now c.deref.ensures.value c.len-statements.ensures c.in_ok-check_most.ensures c.in_ok-check_most-2.ensures (c.len.ensures ∙ c.args.tree.now.procedures.ok.0) c.check_body.result c.check_body.ensures
