-- `program`: the bytes that were decided are a program.
use Rattle.std.proofs.Common.{Ok, sym, subst}
use Rattle.std.proofs.Math.Logic.{∥∥₁_map}
use Rattle.program.specs.Reading.{ReadProgram}
use Rattle.answers.proofs.deciding.Decided.program.Goals as goal

pub invariant_of-result : goal.invariant_of-result
invariant_of-result c = record {
  read = subst (λ s. ∥ ReadProgram s (Ok c.args.self.now.header) ∥₁) (sym c.as_slice.ensures.value) (∥∥₁_map c.args.self.now.holds (λ h. (h.0, h.1.reads, h.1.header)));
}
