-- What is tested part by part is so of the whole, and what is not so of a part is not so of the whole.
use Rattle.std.proofs.Common.{◌≡◌, ℕ, ◌+◌, ◌≤◌, List, ◌∷◌, length, vec_items, vec_len, Result, sym, ◌∙◌, subst, arith}
use Rattle.std.proofs.lemmas.Result.{MatchResult-weaker}
use Rattle.program.specs.Rows.{OkI, OkP, Every}
use Rattle.tree.specs.declared.programs.Statement.{Statement}
use Rattle.tree.specs.declared.programs.Procedure.{Procedure}
use Rattle.tree.specs.declared.faults.Fault.{Fault}
use Rattle.tree.specs.Limits.{Tells}
use Rattle.tree.specs.Meaning.{steps_from, meaning_p}
use Rattle.tree.proofs.Rest.{body_long}

-- a loop that tests one item after another: all are so exactly if those are that it has left
pub record Left {A : Type 0} (P : A → Type 0) (all rest : List A) : Type 0 where
  pub enough : Every P rest → Every P all
  pub needed : Every P all → Every P rest

module _ {A : Type 0} {P : A → Type 0} {all rest : List A} (k : Left P all rest) where
  pub left_more : {x : A} {rest' : List A} → rest ≡ x ∷ rest' → P x → Left P all rest'
  left_more is ok = record { enough = λ h. k.enough (subst (Every P) (sym is) (ok, h)); needed = λ h. (subst (Every P) is (k.needed h)).1 }

  pub left_not : {x : A} {rest' : List A} → rest ≡ x ∷ rest' → (P x → ⊥) → Every P all → ⊥
  left_not is bad h = bad (subst (Every P) is (k.needed h)).0

-- a procedure: its own variables, how many statements it has, and these
module _ (k m : ℕ) (p : Procedure) {ss : List Statement} {n : ℕ} (is : ss ≡ vec_items p.body) (long : n ≡ vec_len p.body) (few : p.own ≤ 6) (short : n ≤ 255) where
  same_scope : n ≡ length (meaning_p p).steps
  same_scope = long ∙ body_long p

  all_fit : {m' : ℕ} → m' ≡ m → Every (OkI (k + p.own) n m') (steps_from 0 ss) → OkP k m (meaning_p p)
  all_fit same h = record {
    few = few;
    short = omega (arith, same_scope);
    steps = subst (λ x. Every (OkI (k + p.own) x m) (meaning_p p).steps) same_scope (subst (λ xs. Every (OkI (k + p.own) n m) (steps_from 0 xs)) is (subst (λ x. Every (OkI (k + p.own) n x) (steps_from 0 ss)) same h));
  }

  each_fits : {m' : ℕ} → m' ≡ m → OkP k m (meaning_p p) → Every (OkI (k + p.own) n m') (steps_from 0 ss)
  each_fits same ok = subst (λ x. Every (OkI (k + p.own) n x) (steps_from 0 ss)) (sym same) (subst (λ xs. Every (OkI (k + p.own) n m) (steps_from 0 xs)) (sym is) (subst (λ x. Every (OkI (k + p.own) x m) (meaning_p p).steps) (sym same_scope) ok.steps))

  pub procedure_fits : {m' : ℕ} → m' ≡ m → (r : Result (Unit {0}) Fault) → Tells (Every (OkI (k + p.own) n m') (steps_from 0 ss)) r → Tells (OkP k m (meaning_p p)) r
  procedure_fits same r h = MatchResult-weaker r h (λ _ k. all_fit same k) (λ _ bad ok. bad (each_fits same ok))
