use Rattle.std.proofs.Common.{refl, subst, sym, ◌∙◌, arith}
use Rattle.program.specs.Reading.{ReadProc}
use Rattle.program.proofs.Turns.{was_ok}
use Rattle.program.proofs.walks.ProceduresIterator.next.Goals as goal

pub returns-clause-steps : goal.returns-clause-steps
returns-clause-steps c =
    let w = c.args.self.now in
    let read = was_ok _ _ (sym c.ok.ensures.value ∙ c.in_ok-procedure.was) in
    (subst (ReadProc w.header.shared w.header.procs w.bytes.now w.at) read c.read_procedure.ensures, refl, refl, refl, omega arith)
