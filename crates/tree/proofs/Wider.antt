-- What is within limits is within wider ones.
use Rattle.std.proofs.Common.{◌≡◌, ℕ, ◌≤◌, List, [], ◌∷◌, map, vec_items, sym, subst, arith}
use Rattle.program.specs.Program.{E, yes, var, not1, and1, I, set, open1, go, call, return, Proc}
use Rattle.program.specs.Rows.{OkE, OkI, OkP, Every}
use Rattle.tree.specs.declared.programs.Procedure.{Procedure}
use Rattle.tree.specs.declared.programs.Tree.{Tree}
use Rattle.tree.specs.Limits.{Kept}
use Rattle.tree.specs.Meaning.{meaning_p, meaning}

pub every_wider : {A : Type 0} {P Q : A → Type 0} → ((x : A) → P x → Q x) → (xs : List A) → Every P xs → Every Q xs
every_wider f [] h = tt
every_wider f (x ∷ xs) h = (f x h.0, every_wider f xs h.1)

ok_e_wider : {n n' : ℕ} → n ≤ n' → (e : E) → OkE n e → OkE n' e
ok_e_wider h yes ok = tt
ok_e_wider h (var x) ok = omega arith
ok_e_wider h (not1 e) ok = ok_e_wider h e ok
ok_e_wider h (and1 e f) ok = (ok_e_wider h e ok.0, ok_e_wider h f ok.1)

ok_i_wider : {n n' k k' m m' : ℕ} → n ≤ n' → k ≤ k' → m ≤ m' → (i : I) → OkI n k m i → OkI n' k' m' i
ok_i_wider h g f (set x e) ok = (omega arith, ok_e_wider h e ok.1)
ok_i_wider h g f (open1 x) ok = omega arith
ok_i_wider h g f (go e t) ok = (omega arith, ok_e_wider h e ok.1)
ok_i_wider h g f (call p) ok = omega arith
ok_i_wider h g f return ok = tt

pub ok_p_wider : {k k' m m' : ℕ} → k ≤ k' → m ≤ m' → (p : Proc) → OkP k m p → OkP k' m' p
ok_p_wider h g p ok = record {
  few = ok.few;
  short = ok.short;
  steps = every_wider (ok_i_wider (omega arith) (omega arith) g) p.steps ok.steps;
}

-- the steps of any procedure name numbers that a byte holds
pub steps_small : (p : Proc) → OkP 6 64 p → Every (OkI 12 255 64) p.steps
steps_small p ok = let few = ok.few in every_wider (ok_i_wider (omega arith) ok.short (omega arith)) p.steps ok.steps

-- every number fits a byte
pub kept_small : (t : Tree) {ps : List Procedure} → ps ≡ vec_items t.procedures → Kept (meaning t) → Every (OkP 6 64) (map meaning_p ps)
kept_small t is k = subst (λ ps. Every (OkP 6 64) (map meaning_p ps)) (sym is) (every_wider (ok_p_wider k.few k.most) (meaning t).procs k.procs)
