-- The program that a syntax tree means. What programs lack is written out in what they have.
use Rattle.std.specs.Prelude.{◌≡◌, ℕ, ◌+◌, Bool, true, false, not, ◌&&◌, ◌||◌, List, [], ◌∷◌, map, vec_items}
use Rattle.program.specs.Program.{E, yes, var, not1, and1, I, set, open1, go, call, return, Proc, Prog, nth, or_f, value}
use Rattle.tree.specs.declared.programs.Expr.{Expr}
use Rattle.tree.specs.declared.programs.Expr.TheVariants.{Yes, No, Var, Not', And', Or', Equal', Differ'}
use Rattle.tree.specs.declared.programs.Statement.{Statement}
use Rattle.tree.specs.declared.programs.Statement.TheVariants.{Skip, Goto, Branch, Assign, Open, Call, Return}
use Rattle.tree.specs.declared.programs.Procedure.{Procedure}
use Rattle.tree.specs.declared.programs.Tree.{Tree}

-- a or b: not both are no
abbrev pub or1 : E → E → E
or1 a b = not1 (and1 (not1 a) (not1 b))

-- a equals b: neither has one yes and the other no
abbrev pub equal1 : E → E → E
equal1 a b = and1 (not1 (and1 a (not1 b))) (not1 (and1 (not1 a) b))

-- A definition by cases reads each box in two parts: p and q are the pointer and the allocator, and
-- the operand stands beside them.
abbrev pub meaning_e : Expr → E
meaning_e Yes = yes
meaning_e No = not1 yes
meaning_e (Var x) = var x.0
meaning_e (Not' p a) = not1 (meaning_e a)
meaning_e (And' p a q b) = and1 (meaning_e a) (meaning_e b)
meaning_e (Or' p a q b) = or1 (meaning_e a) (meaning_e b)
meaning_e (Equal' p a q b) = equal1 (meaning_e a) (meaning_e b)
meaning_e (Differ' p a q b) = not1 (equal1 (meaning_e a) (meaning_e b))

-- the step that a statement at place a is
abbrev pub meaning_i : ℕ → Statement → I
meaning_i a Skip = go yes (a + 1)
meaning_i a (Goto t) = go yes t.0
meaning_i a (Branch e t) = go (meaning_e e) t.0
meaning_i a (Assign x e) = set x.0 (meaning_e e)
meaning_i a (Open x) = open1 x.0
meaning_i a (Call f) = call f.0
meaning_i a Return = return

-- the steps of statements that stand at places from a on
abbrev pub steps_from : ℕ → List Statement → List I
steps_from a [] = []
steps_from a (s ∷ ss) = meaning_i a s ∷ steps_from (a + 1) ss

abbrev pub meaning_p : Procedure → Proc
meaning_p p = record { own = p.own; steps = steps_from 0 (vec_items p.body) }

abbrev pub meaning : Tree → Prog
meaning t = record { shared = t.shared; procs = map meaning_p (vec_items t.procedures) }

-- whether two truth values are the same
abbrev pub same : Bool → Bool → Bool
same true b = b
same false b = not b

-- the value of an expression by the truth tables of its operators
abbrev pub truth : List Bool → Expr → Bool
truth vs Yes = true
truth vs No = false
truth vs (Var x) = or_f (nth vs x.0)
truth vs (Not' p a) = not (truth vs a)
truth vs (And' p a q b) = truth vs a && truth vs b
truth vs (Or' p a q b) = truth vs a || truth vs b
truth vs (Equal' p a q b) = same (truth vs a) (truth vs b)
truth vs (Differ' p a q b) = not (same (truth vs a) (truth vs b))

-- what is written out has the value that the truth tables give
abbrev pub TruthTables : Type 0
TruthTables = (vs : List Bool) (e : Expr) → value vs (meaning_e e) ≡ truth vs e
