use Rattle.std.proofs.Common.{refl, arith}
use Rattle.std.proofs.lemmas.Result.{err_from_is_err_and}
use Rattle.program.proofs.ReadingProgram.{no_procs, no_second, small, whole}
use Rattle.program.proofs.programs.read.Goals as goal

pub returns-then-counted-eq0-clause-reads : goal.returns-then-counted-eq0-clause-reads
returns-then-counted-eq0-clause-reads c = no_procs _ _ c.in_ok-shared.ensures _ _ refl _ c.in_ok-counted.ensures (omega arith)

pub returns-in_err-again-clause-reads : goal.returns-in_err-again-clause-reads
returns-in_err-again-clause-reads c =
    let p = err_from_is_err_and c.from_residual-in_err-again.result c.from_residual-in_err-again.ensures.1 in
    rw p.1 (no_second _ _ c.in_ok-shared.ensures _ _ refl _ c.in_ok-counted.ensures c.in_err-again.ensures)

pub work_words-work-requires : goal.work_words-work-requires
work_words-work-requires c = (omega (arith, c.in_ok-shared.ensures.1), small _ _ c.in_ok-shared.ensures _ _ refl _ c.in_ok-counted.ensures refl _ c.in_ok-again.ensures)

pub returns-clause-reads : goal.returns-clause-reads
returns-clause-reads c = whole _ _ c.in_ok-shared.ensures _ _ refl _ c.in_ok-counted.ensures refl _ c.in_ok-again.ensures _ c.work_words-work.ensures (omega arith) (omega arith)
