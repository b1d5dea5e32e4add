use Rattle.std.proofs.Common.{◌≡◌, ◌-◌, Ok, Err, subst, arith}
use Rattle.std.proofs.lemmas.Result.{err_from_is_err_and}
use Rattle.program.specs.Reading.{NoProcs}
use Rattle.program.specs.declared.refusals.Reason.TheVariants.{TooManyProcedures}
use Rattle.program.proofs.ReadingProgram.{procs_done, no_room, no_proc}
use Rattle.program.proofs.programs.read_procedures.Goals as goal

pub returns-then-tally-eq-MOST_PROCEDURES : goal.returns-then-tally-eq-MOST_PROCEDURES
returns-then-tally-eq-MOST_PROCEDURES c =
    let full : 0 ≡ 64 - c.loop-end.tally.count = omega arith in
    c.loop-end.invariant.rest (Err (record { at = c.loop-end.end; reason = TooManyProcedures })) (subst (NoProcs c.args.shared c.args.procs c.args.bytes.now c.loop-end.end) full (no_room _ _ _ _ c.loop-end-test.true))

pub returns-in_err-found : goal.returns-in_err-found
returns-in_err-found c =
    let p = err_from_is_err_and c.from_residual.result c.from_residual.ensures.1 in
    rw p.1 (c.loop-end.invariant.rest (Err p.0) (no_proc _ _ _ _ c.loop-end-test.true _ c.in_err-found.ensures))

pub returns : goal.returns
returns c = c.loop-end.invariant.rest (Ok _) (procs_done _ _ _ _ _ _ c.loop-end-test.false)
