use Rattle.std.proofs.Common.{Ok, sym, subst}
use Rattle.program.specs.Reading.{ReadProgram}
use Rattle.report.proofs.loaded.Listed.program.Goals as goal

pub invariant_of-result : goal.invariant_of-result
invariant_of-result c = record { read = subst (λ s. ∥ ReadProgram s (Ok c.args.self.now.header) ∥₁) (sym c.as_slice.ensures.value) c.args.self.now.read }
