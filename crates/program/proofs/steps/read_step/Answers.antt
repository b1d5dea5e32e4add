use Rattle.std.proofs.Common.{◌+◌, Ok, subst}
use Rattle.program.specs.Reading.{ReadNumber}
use Rattle.program.proofs.ReadingStep.{is_set, is_open, is_go, is_call, is_return}
use Rattle.program.proofs.steps.read_step.Goals as goal

pub returns-in_ok-end-in-0 : goal.returns-in_ok-end-in-0
returns-in_ok-end-in-0 c = is_set _ _ _ _ c.in_ok-kind.ensures _ _ c.in-0.is c.in_ok-var-in-0.ensures c.in_ok-end-in-0.ensures

pub returns-in_ok-open-in-1 : goal.returns-in_ok-open-in-1
returns-in_ok-open-in-1 c = is_open _ _ _ _ c.in_ok-kind.ensures _ c.in-1.is c.in_ok-open-in-1.ensures

pub returns-in_ok-past-in-2 : goal.returns-in_ok-past-in-2
returns-in_ok-past-in-2 c = is_go _ _ _ _ c.in_ok-kind.ensures _ _ c.in-2.is (subst (λ z. ReadNumber (z + 1) c.args.bytes.now (c.args.at + 1) (Ok c.in_ok-place-in-2.place)) c.from-places.ensures c.in_ok-place-in-2.ensures) c.in_ok-past-in-2.ensures

pub returns-in_ok-callee-in-3 : goal.returns-in_ok-callee-in-3
returns-in_ok-callee-in-3 c = is_call _ _ _ _ c.in_ok-kind.ensures _ c.in-3.is c.in_ok-callee-in-3.ensures

pub returns-in-4 : goal.returns-in-4
returns-in-4 c = is_return _ _ _ _ c.in_ok-kind.ensures c.in-4.is
