-- How many bytes a tree takes: the lengths of its parts are added, and none is lost below a million.
use Rattle.std.proofs.Common.{◌≡◌, ℕ, ◌+◌, ◌≤◌, List, [], ◌∷◌, map, fold, length, refl, arith, length-append}
use Rattle.program.specs.Program.{E, yes, var, not1, and1}
use Rattle.program.specs.Rows.{row_e, row_i, row_p, rows}
use Rattle.tree.specs.declared.programs.Expr.{Expr}
use Rattle.tree.specs.declared.programs.Statement.{Statement}
use Rattle.tree.specs.declared.programs.Statement.TheVariants.{Skip, Goto, Branch, Assign, Open, Call, Return}
use Rattle.tree.specs.declared.programs.Procedure.{Procedure}
use Rattle.tree.specs.Meaning.{meaning_e, meaning_i, steps_from, meaning_p}
use Rattle.tree.specs.Sizes.{counted}

abbrev pub size_e : Expr → ℕ
size_e e = length (row_e (meaning_e e))

pub some_bytes : (e : E) → 1 ≤ length (row_e e)
some_bytes yes = omega arith
some_bytes (var x) = omega arith
some_bytes (not1 e) = omega arith
some_bytes (and1 e f) = omega arith

-- a statement takes as many bytes at any place
place_size : (k : ℕ) (s : Statement) → length (row_i (meaning_i k s)) ≡ length (row_i (meaning_i 0 s))
place_size k Skip = refl
place_size k (Goto t) = refl
place_size k (Branch e t) = refl
place_size k (Assign x e) = refl
place_size k (Open x) = refl
place_size k (Call f) = refl
place_size k Return = refl

-- sizes that are added one by one, behind n bytes
abbrev pub added : ℕ → List ℕ → ℕ
added n sizes = fold (λ m k. counted (m + k)) n sizes

pub body_added : (k n : ℕ) (ss : List Statement) → n ≤ 1000000 → added n (map (λ s. counted (length (row_i (meaning_i 0 s)))) ss) ≡ counted (n + length (rows row_i (steps_from k ss)))
body_added k n [] h = omega arith
body_added k n (s ∷ ss) h =
    let rest = body_added (k + 1) (counted (n + counted (length (row_i (meaning_i 0 s))))) ss (omega arith) in
    let both = length-append (row_i (meaning_i k s)) (rows row_i (steps_from (k + 1) ss)) in
    omega (arith, rest, both, place_size k s)

pub procedures_added : (n : ℕ) (ps : List Procedure) → n ≤ 1000000 → added n (map (λ p. counted (length (row_p (meaning_p p)))) ps) ≡ counted (n + length (rows row_p (map meaning_p ps)))
procedures_added n [] h = omega arith
procedures_added n (p ∷ ps) h =
    let rest = procedures_added (counted (n + counted (length (row_p (meaning_p p))))) ps (omega arith) in
    let both = length-append (row_p (meaning_p p)) (rows row_p (map meaning_p ps)) in
    omega (arith, rest, both)
