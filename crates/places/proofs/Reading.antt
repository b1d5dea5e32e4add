-- The bytes of a program that was read are one program's, and it can be had.
use Rattle.std.proofs.Common.{ℕ, ◌+◌, List, [], ◌∷◌, length}
use denote.Struct.Props.{props}
use mathlib.Core.HLevel.{×_prop, Unit-prop, is_prop→PathP}
use mathlib.Core.Logic.{∥∥₁_elim}
use mathlib.Core.Path.{Σ_path}
use Rattle.program.specs.declared.programs.Header.{Header}
use Rattle.program.specs.Program.{E, yes, var, not1, and1, I, set, open1, go, call, return, Proc, Prog}
use Rattle.program.specs.Rows.{Every, OkE, OkI, OkP}
use Rattle.program.proofs.Proved.{laws}
use Rattle.expansion.specs.Programs.{Headed}

OkE-prop : (n : ℕ) (e : E) → IsProp (OkE n e)
OkE-prop n yes = Unit-prop
OkE-prop n (var x) = hlevel props
OkE-prop n (not1 e) = OkE-prop n e
OkE-prop n (and1 e f) = ×_prop (OkE-prop n e) (OkE-prop n f)

OkI-prop : (n k m : ℕ) (i : I) → IsProp (OkI n k m i)
OkI-prop n k m (set x e) = hlevel (props, OkE-prop)
OkI-prop n k m (open1 x) = hlevel props
OkI-prop n k m (go e t) = hlevel (props, OkE-prop)
OkI-prop n k m (call f) = hlevel props
OkI-prop n k m return = Unit-prop

Every-prop : {A : Type 0} (P : A → Type 0) → ((x : A) → IsProp (P x)) → (xs : List A) → IsProp (Every P xs)
Every-prop P each [] = Unit-prop
Every-prop P each (x ∷ xs) = ×_prop (each x) (Every-prop P each xs)

OkP-prop : (k m : ℕ) (p : Proc) → IsProp (OkP k m p)
OkP-prop k m p =
    let steps : IsProp (Every (OkI (k + p.own) (length p.steps) m) p.steps) = Every-prop _ (OkI-prop _ _ _) p.steps in
    hlevel (props, steps)

Headed-prop : (s : List ℕ) (h : Header) (g : Prog) → IsProp (Headed s h g)
Headed-prop s h g =
    let procs : IsProp (Every (OkP g.shared (length g.procs)) g.procs) = Every-prop _ (OkP-prop _ _) g.procs in
    hlevel (props, procs)

IsRead-prop : (s : List ℕ) (h : Header) → IsProp ((g : Prog) × Headed s h g)
IsRead-prop s h x y = let e = laws.one_program s x.0 y.0 x.1.reads y.1.reads in Σ_path e (is_prop→PathP (λ i. Headed s h (e i)) (λ i. Headed-prop s h (e i)) x.1 y.1)

-- the program that was read
pub read_one : {s : List ℕ} {h : Header} → ∥ ((g : Prog) × Headed s h g) ∥₁ → (g : Prog) × Headed s h g
read_one {s} {h} r = ∥∥₁_elim r (IsRead-prop s h) (λ x. x)
