use Rattle.std.proofs.Common.{◌-◌, Ok, Err, arith}
use Rattle.std.proofs.lemmas.Result.{err_from_is_err_and}
use Rattle.program.proofs.ReadingProc.{steps_done, no_steps}
use Rattle.program.proofs.procedures.read_steps.Goals as goal

pub returns-in_err-found : goal.returns-in_err-found
returns-in_err-found c =
    let p = err_from_is_err_and c.from_residual.result c.from_residual.ensures.1 in
    rw p.1 (c.loop-i.invariant.1 (Err p.0) (no_steps _ _ (c.args.count - c.loop-i._i) c.loop-i.end (omega arith) c.in_err-found.ensures))

pub returns : goal.returns
returns c = c.loop-i.invariant.1 (Ok _) (steps_done _ _ _ _ (omega arith) c.loop-i.invariant.0)
