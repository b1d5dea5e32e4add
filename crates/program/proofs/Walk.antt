-- Reading procedure by procedure finds each procedure of a program in its turn.
use Rattle.std.proofs.Common.{◌≡◌, ℕ, zero, suc, ◌+◌, ◌<◌, List, [], ◌∷◌, length, drop, Ok, sym, refl, ap, ◌∙◌, subst, add-one, arith}
use mathlib.Core.Option.{some}
use Rattle.program.specs.declared.procedures.Procedure.{Procedure}
use Rattle.program.specs.Program.{nth, Proc, Prog}
use Rattle.program.specs.Rows.{row_p, rows, OkP, Every, Reads}
use Rattle.program.specs.Reading.{Nothing, ReadProc}
use Rattle.program.specs.Walking.{Rest}
use Rattle.program.proofs.Prefix.{prefix_p}

pub every_nth : {A : Type 0} (P : A → Type 0) (xs : List A) (n : ℕ) (x : A) → Every P xs → nth xs n ≡ some x → P x
every_nth P [] n x o e = absurd cc
every_nth P (y ∷ xs) zero x o e = let same : y ≡ x = cc in subst P same o.0
every_nth P (y ∷ xs) (suc n) x o e = every_nth P xs n x o.1 e

pub split : {A : Type 0} (xs : List A) (n : ℕ) → n < length xs → (x : A) × (nth xs n ≡ some x) × (drop n xs ≡ x ∷ drop (suc n) xs)
split [] n h = absurd (omega arith)
split (x ∷ xs) zero h = (x, refl, refl)
split (x ∷ xs) (suc n) h = split xs n (omega arith)

-- procedure f is p, and the next one begins at `end`
pub record Next (g : Prog) (s : List ℕ) (f : ℕ) (p : Proc) (end : ℕ) : Type 0 where
  pub at_f : nth g.procs f ≡ some p
  pub from_f : drop f g.procs ≡ p ∷ drop (f + 1) g.procs
  pub rest : Rest g s (f + 1) end

pub rest_first : {s : List ℕ} {g : Prog} → Reads s g → Rest g s 0 1
rest_first r = ap (drop 1) (sym r.bytes)

module _ {s : List ℕ} {g : Prog} (r : Reads s g) (f at : ℕ) (h : Rest g s f at) (there : f < length g.procs) where
  pub rest_some : Nothing row_p (OkP g.shared (length g.procs)) s at → ⊥
  rest_some q =
      let p = split g.procs f there in
      q p.0 (rows row_p (drop (suc f) g.procs)) (h ∙ ap (rows row_p) p.2) (every_nth (OkP g.shared (length g.procs)) g.procs f p.0 r.procs p.1)

  pub rest_next : (k m : ℕ) (d : Procedure) → (q : ReadProc k m s at (Ok d)) → Next g s f q.0.it d.end
  rest_next k m d q =
      let p = split g.procs f there in
      let x = prefix_p q.0.it p.0 _ _ (sym q.0.stands.is ∙ h ∙ ap (rows row_p) p.2) in
      record { at_f = p.1 ∙ ap some (sym x.0); from_f = rw add-one (p.2 ∙ ap (λ y. y ∷ drop (suc f) g.procs) (sym x.0)); rest = rw add-one x.1 }
