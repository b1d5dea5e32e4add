use Rattle.std.proofs.Common.{refl, subst, sym, ◌∙◌, arith}
use Rattle.program.specs.Reading.{ReadStep}
use Rattle.program.proofs.Turns.{was_ok}
use Rattle.program.proofs.walks.StepsIterator.next.Goals as goal

pub returns-clause-steps : goal.returns-clause-steps
returns-clause-steps c =
    let w = c.args.self.now in
    let read = was_ok _ _ (sym c.ok.ensures.value ∙ c.in_ok-found.was) in
    (subst (ReadStep w.scope w.bytes.now w.at) read c.read_step.ensures, refl, refl, refl, omega arith)
