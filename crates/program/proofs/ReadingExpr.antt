-- Reading one expression: a case for each byte that comes first.
use Rattle.std.proofs.Common.{◌≡◌, ℕ, ◌+◌, ◌<◌, ◌≤◌, ◌⊎◌, List, [], ◌∷◌, ◌++◌, length, drop, Ok, Err, Result, sym, refl, ap, ◌∙◌, subst, ⊎_elim, arith}
use Rattle.program.specs.declared.refusals.Refusal.{Refusal}
use Rattle.program.specs.Program.{E, yes, var, not1, and1}
use Rattle.program.specs.Rows.{row_e, OkE}
use Rattle.program.specs.Reading.{Stands, Nothing, NoNumber, ReadNumber, ReadExpr}
use Rattle.program.proofs.Standing.{stands_join, stands_pair, past_end}
use Rattle.program.proofs.Prefix.{RestE, rest_e, unknown_e, prefix_e}

pub row_e_some : (e : E) → 0 < length (row_e e)
row_e_some yes = omega arith
row_e_some (var x) = omega arith
row_e_some (not1 e) = omega arith
row_e_some (and1 e f) = omega arith

-- the byte b comes first
module _ (n : ℕ) (s : List ℕ) (at b : ℕ) (first : Stands s at (at + 1) (b ∷ [])) where
  pub seen_e : (t : ℕ) → b ≡ t → (e : E) (r : List ℕ) → drop at s ≡ row_e e ++ r → RestE t (drop (at + 1) s) r e
  seen_e t g e r k = rest_e e t _ r (ap (λ x. x ∷ drop (at + 1) s) (sym g) ∙ sym first.is ∙ k)

  tag : (t : ℕ) → b ≡ t → Stands s at (at + 1) (t ∷ [])
  tag t g = subst (λ x. Stands s at (at + 1) (x ∷ [])) g first

  pub is_var : (x : ℕ) → b ≡ 1 → ReadNumber n s (at + 1) (Ok x) → ReadExpr n s at (Ok (at + 2))
  is_var x g k = record { it = var x; stands = stands_pair s (tag 1 g) k.0; fine = k.1 }

  pub no_var : b ≡ 1 → NoNumber n s (at + 1) → Nothing row_e (OkE n) s at
  no_var g k e r q o = let l = seen_e 1 g e r q in k l.0 r l.2 (subst (OkE n) l.1 o)

  pub is_not : (r : Result ℕ Refusal) → b ≡ 2 → ReadExpr n s (at + 1) r → ReadExpr n s at r
  is_not (Ok end) g k = record { it = not1 k.it; stands = stands_join s refl (tag 2 g) k.stands; fine = k.fine }
  is_not (Err d) g k = λ e r q o. let l = seen_e 2 g e r q in k l.0 r l.2 (subst (OkE n) l.1 o)

  pub no_and : b ≡ 3 → Nothing row_e (OkE n) s (at + 1) → Nothing row_e (OkE n) s at
  no_and g k e r q o = let l = seen_e 3 g e r q in k l.0 _ l.3 (subst (OkE n) l.2 o).0

  pub is_and : (mid : ℕ) (r : Result ℕ Refusal) → b ≡ 3 → ReadExpr n s (at + 1) (Ok mid) → ReadExpr n s mid r → ReadExpr n s at r
  is_and mid (Ok end) g k l = record { it = and1 k.it l.it; stands = stands_join s refl (tag 3 g) (stands_join s refl k.stands l.stands); fine = (k.fine, l.fine) }
  is_and mid (Err d) g k l = λ e r q o.
      let m = seen_e 3 g e r q in
      let p = prefix_e k.it m.0 _ _ (sym k.stands.is ∙ m.3) in
      l m.1 r p.1 (subst (OkE n) m.2 o).1

-- no byte comes first, or one that begins no expression
pub no_expr : (n : ℕ) (s : List ℕ) (at : ℕ) {P : ℕ → Type 0} → (length s ≤ at) ⊎ ((b : ℕ) × Stands s at (at + 1) (b ∷ []) × ((4 ≤ b) × P b)) → Nothing row_e (OkE n) s at
no_expr n s at h e r q o = ⊎_elim (λ l. past_end s (row_e e) r (row_e_some e) l q) (λ k. unknown_e k.0 _ r e k.2.0 (seen_e n s at k.0 k.1 k.0 refl e r q)) h
