-- What is written out has the value of the operator: each truth table is gone through.
use Rattle.std.proofs.Common.{◌≡◌, Bool, true, false, not, ◌&&◌, ◌||◌, refl, ap, ◌∙◌}
use Rattle.program.specs.Program.{value}
use Rattle.tree.specs.declared.programs.Expr.TheVariants.{Yes, No, Var, Not', And', Or', Equal', Differ'}
use Rattle.tree.specs.Meaning.{meaning_e, same, TruthTables}

or_table : (x y : Bool) → not (not x && not y) ≡ x || y
or_table true true = refl
or_table true false = refl
or_table false true = refl
or_table false false = refl

equal_table : (x y : Bool) → not (x && not y) && not (not x && y) ≡ same x y
equal_table true true = refl
equal_table true false = refl
equal_table false true = refl
equal_table false false = refl

pub truth_tables : TruthTables
truth_tables vs Yes = refl
truth_tables vs No = refl
truth_tables vs (Var x) = refl
truth_tables vs (Not' p a) = ap not (truth_tables vs a)
truth_tables vs (And' p a q b) = λ i. truth_tables vs a i && truth_tables vs b i
truth_tables vs (Or' p a q b) = or_table (value vs (meaning_e a)) (value vs (meaning_e b)) ∙ λ i. truth_tables vs a i || truth_tables vs b i
truth_tables vs (Equal' p a q b) = equal_table (value vs (meaning_e a)) (value vs (meaning_e b)) ∙ λ i. same (truth_tables vs a i) (truth_tables vs b i)
truth_tables vs (Differ' p a q b) = ap not (equal_table (value vs (meaning_e a)) (value vs (meaning_e b)) ∙ λ i. same (truth_tables vs a i) (truth_tables vs b i))
