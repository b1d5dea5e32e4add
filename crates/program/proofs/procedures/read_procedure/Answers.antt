use Rattle.std.proofs.Common.{◌+◌, Ok, subst, arith}
use Rattle.std.proofs.lemmas.Result.{err_from_is_err_and}
use Rattle.program.specs.Reading.{NoSteps, ReadSteps}
use Rattle.program.proofs.ReadingProc.{no_body, inside_is, is_proc}
use Rattle.program.proofs.procedures.read_procedure.Goals as goal

pub returns-in_err-end : goal.returns-in_err-end
returns-in_err-end c =
    let p = err_from_is_err_and c.from_residual-in_err-end.result c.from_residual-in_err-end.ensures.1 in
    let n = c.new-scope.ensures in
    let b = inside_is _ _ c.args.bytes.now c.args.at _ c.in_ok-own.ensures _ c.in_ok-steps.ensures _ n.vars n.last n.procs in
    rw p.1 (no_body _ _ _ _ _ c.in_ok-own.ensures _ c.in_ok-steps.ensures (subst (λ z. NoSteps z c.args.bytes.now c.in_ok-steps.steps (c.args.at + 2)) b c.in_err-end.ensures))

pub returns : goal.returns
returns c =
    let n = c.new-scope.ensures in
    let b = inside_is _ _ c.args.bytes.now c.args.at _ c.in_ok-own.ensures _ c.in_ok-steps.ensures _ n.vars n.last n.procs in
    is_proc _ _ _ _ _ c.in_ok-own.ensures _ c.in_ok-steps.ensures _ (omega arith) (subst (λ z. ReadSteps z c.args.bytes.now c.in_ok-steps.steps (c.args.at + 2) (Ok c.in_ok-end.end)) b c.in_ok-end.ensures)
