use Rattle.std.proofs.Common.{rules}
use Rattle.std.proofs.lemmas.Result.{err_from_is_err_and}
use Rattle.syntax.proofs.Reading.{one_more, refused, faulty}
use Rattle.syntax.proofs.decimal.read_decimal.Goals as goal

pub returns-in_err-number : goal.returns-in_err-number
returns-in_err-number c =
    let p = err_from_is_err_and c.from_residual.result c.from_residual.ensures.1 in
    rw p.1 (faulty c.args.text.now p.0 (refused c.loop-place.invariant.2 c.in-Some.word.now c.in-Some.ensures.steps.0 c.in_err-number.ensures))

pub loop-place-preserved : goal.loop-place-preserved
loop-place-preserved c =
    let byte = c.in_ok-push.ensures in
    let line = c.in_ok-push-2.ensures in
    (search rules, search rules, one_more c.loop-place.invariant.2 c.in-Some.word.now c.in_ok-number.field-0 c.in-Some.ensures.steps.0 c.in_ok-number.ensures byte.items byte.len line.len)
