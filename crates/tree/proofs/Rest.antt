-- What a loop over statements or procedures has left at an index: the steps, or procedures, that the
-- rest of the list means. One more of them is taken off its front; at the end nothing is left. And how
-- many there are in all.
use Rattle.std.proofs.Common.{◌≡◌, ℕ, ◌+◌, ◌<◌, List, [], ◌∷◌, map, length, get_or, drop, vec_items, vec_len, sym, refl, ap, ◌∙◌, arith}
use Rattle.std.proofs.lemmas.List.{drop_more}
use Rattle.program.specs.Program.{I, Proc}
use Rattle.program.specs.Rows.{row_i, row_p, rows}
use Rattle.tree.specs.declared.programs.Statement.{Statement}
use Rattle.tree.specs.declared.programs.Procedure.{Procedure}
use Rattle.tree.specs.Meaning.{steps_from, meaning_p}

-- the item at i, and what is behind it
drop_item : {A : Type 0} (xs : List A) (i : ℕ) (x : A) → i < length xs → x ≡ get_or xs i x → drop i xs ≡ x ∷ drop (i + 1) xs
drop_item xs i x h is = drop_more xs i x h ∙ ap (λ y. y ∷ drop (i + 1) xs) (sym is)

abbrev pub rest_i : List Statement → ℕ → List I
rest_i ss i = steps_from i (drop i ss)

abbrev pub rest_p : List Procedure → ℕ → List Proc
rest_p ps i = map meaning_p (drop i ps)

pub rest_p_more : (ps : List Procedure) (i : ℕ) (p : Procedure) → i < length ps → p ≡ get_or ps i p → rest_p ps i ≡ meaning_p p ∷ rest_p ps (i + 1)
rest_p_more ps i p h is = ap (map meaning_p) (drop_item ps i p h is)

length_steps : (a : ℕ) (ss : List Statement) → length (steps_from a ss) ≡ length ss
length_steps a [] = refl
length_steps a (s ∷ ss) = let k = length_steps (a + 1) ss in omega arith

pub body_long : (p : Procedure) → vec_len p.body ≡ length (meaning_p p).steps
body_long p = p.body.ok.0 ∙ sym (length_steps 0 (vec_items p.body))

-- the bytes of a procedure, as they are written
pub procedure_bytes : (p : Procedure) {ss : List Statement} {n : ℕ} → ss ≡ vec_items p.body → n ≡ vec_len p.body → p.own ∷ n ∷ rows row_i (steps_from 0 ss) ≡ row_p (meaning_p p)
procedure_bytes p is long = let k = long ∙ body_long p in λ i. p.own ∷ k i ∷ rows row_i (steps_from 0 (is i))
