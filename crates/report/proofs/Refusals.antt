-- A sentence of refusal is right where the text lists nothing, or lists bytes that are no program.
use Rattle.std.proofs.Common.{◌≡◌, ℕ, List, Err, refl, subst}
use Rattle.program.specs.Program.{Prog}
use Rattle.program.specs.Rows.{Reads}
use Rattle.program.specs.Reading.{NoProgram}
use Rattle.syntax.specs.declared.decimal.Fault.{Fault}
use Rattle.syntax.specs.declared.decimal.Fault.TheVariants.{NoNumber, TooLarge, Memory as Short}
use Rattle.syntax.specs.Decimal.{Lists}
use Rattle.syntax.specs.Answers.{Answers}
use Rattle.syntax.proofs.Once.{lists_one}
use Rattle.report.specs.declared.complaints.Complaint.{Complaint}
use Rattle.report.specs.declared.complaints.Complaint.TheVariants.{Sentence, Memory}
use Rattle.report.specs.Files.{Refused}

refuse : (text : List ℕ) (c : Complaint) → ((s : List ℕ) (g : Prog) → Lists text s → Reads s g → ⊥) → Refused text c
refuse text (Sentence m) h = h
refuse text Memory h = tt

pub lists_none : (text : List ℕ) (f : Fault) (c : Complaint) → Answers text (Err f) → (f ≡ Short → c ≡ Memory) → Refused text c
lists_none text (NoNumber p) c a e = refuse text c (λ s g l r. a s l)
lists_none text (TooLarge p) c a e = refuse text c (λ s g l r. a s l)
lists_none text Short c a e = rw (e refl) tt

pub lists_no_program : (text s : List ℕ) (c : Complaint) → Lists text s → NoProgram s → Refused text c
lists_no_program text s c l n = refuse text c (λ s' g l' r. n g (subst (λ z. Reads z g) (lists_one text s' s l' l) r))
