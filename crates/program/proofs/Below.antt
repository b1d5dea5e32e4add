-- What waits further below doesn't matter to a step, so a program's steps are those of its system.
use Rattle.std.proofs.Common.{◌≡◌, ℕ, ◌+◌, ◌<◌, Bool, true, false, List, [], ◌∷◌, ◌++◌, length, sym, refl, ap, subst, arith}
use mathlib.Core.Option.{some}
use Rattle.pushdown.specs.System as pushdown
use Rattle.program.specs.Program.{pick, E, go, Prog, Frame, St, value, all}
use Rattle.program.specs.Runs.{step_at, to, Step, sets, opens, goes, calls, returns, runs_out, begin, Reached, at_first, by, Keeps, stay, more, over}
use Rattle.program.specs.Laws.{BelowIsNothing, NorFromBelow}
use Rattle.pushdown.proofs.Runs.{less_below}
use Rattle.program.specs.Systems.{Node, state, node, resumed, system}

-- a go, by which way it takes
module _ {g : Prog} {s : St} {e : E} {t : ℕ} (h : step_at g s.top ≡ some (go e t)) where
  pub jumps : value (all s) e ≡ true → Step g s (to s t)
  jumps v = subst (λ b. Step g s (pick b (to s t) (to s (s.top.at + 1)))) v (goes e t h)

  pub passes : value (all s) e ≡ false → Step g s (to s (s.top.at + 1))
  passes v = subst (λ b. Step g s (pick b (to s t) (to s (s.top.at + 1)))) v (goes e t h)

-- a program's step is a step of its system
pub to_system : {g : Prog} {s t : St} → Step g s t → pushdown.Step (system g) (node s) s.below (node t) t.below
to_system (sets x e h) = pushdown.flows (sets x e h)
to_system (opens x b h) = pushdown.flows (opens x b h)
to_system {g} {s} (goes e t h) = way (value (all s) e) refl
  where
    way : (b : Bool) → value (all s) e ≡ b → pushdown.Step (system g) (node s) s.below (node (pick b (to s t) (to s (s.top.at + 1)))) (pick b (to s t) (to s (s.top.at + 1))).below
    way true v = pushdown.flows (jumps h v)
    way false v = pushdown.flows (passes h v)
to_system (calls f p h k) = pushdown.calls (calls f p h k)
to_system {g} {s} (returns f fs h k) = subst (λ b. pushdown.Step (system g) (node s) b (resumed f s.shared) fs) (sym k) (pushdown.exits (λ w. returns w [] h refl))
to_system {g} {s} (runs_out f fs h k) = subst (λ b. pushdown.Step (system g) (node s) b (resumed f s.shared) fs) (sym k) (pushdown.exits (λ w. runs_out w [] h refl))

pub below_is_nothing : BelowIsNothing
below_is_nothing g s t fs (sets x e h) = sets x e h
below_is_nothing g s t fs (opens x b h) = opens x b h
below_is_nothing g s t fs (goes e d h) = way (value (all s) e) refl
  where
    way : (b : Bool) → value (all s) e ≡ b → Step g (over s fs) (over (pick b (to s d) (to s (s.top.at + 1))) fs)
    way true v = jumps h v
    way false v = passes h v
below_is_nothing g s t fs (calls f p h k) = calls f p h k
below_is_nothing g s t fs (returns f ws h k) = returns f (ws ++ fs) h (ap (λ b. b ++ fs) k)
below_is_nothing g s t fs (runs_out f ws h k) = runs_out f (ws ++ fs) h (ap (λ b. b ++ fs) k)

-- and a step of the system is the program's
pub from_system : {g : Prog} {n m : Node} {s t : List Frame} → pushdown.Step (system g) n s m t → Step g (state n s) (state m t)
from_system {g} {n} {m} {s} (pushdown.flows f) = below_is_nothing g (state n []) (state m []) s f
from_system {g} {n} {m} {s} (pushdown.calls {r = r} c) = below_is_nothing g (state n []) (state m (r ∷ [])) s c
from_system {g} {n} (pushdown.exits {x = x} {r = r} {s = s} y) = below_is_nothing g (state n (r ∷ [])) (state (resumed r x) []) s (y r)

pub nor_from_below : NorFromBelow
nor_from_below g s u fs l d = part s.below refl l (to_system d)
  where
    part : (b : List Frame) → s.below ≡ b → 0 < length s.below → pushdown.Step (system g) (node s) (s.below ++ fs) (node u) u.below → (t : St) × (u ≡ over t fs) × Step g s t
    part [] e l d = absurd (omega (arith, ap length e))
    part (f ∷ b) e l d =
        let k = less_below (subst (λ z. pushdown.Step (system g) (node s) (z ++ fs) (node u) u.below) e d) in (
          state (node u) k.0,
          (λ i. record { shared = u.shared; top = u.top; below = k.1 i }),
          subst (λ z. Step g (state (node s) z) (state (node u) k.0)) (sym e) (from_system k.2),
        )

-- runs
pub to_run : {g : Prog} {s : St} → Reached g s → pushdown.Reached (system g) (node (begin g)) (node s) s.below
to_run at_first = pushdown.stay
to_run (by r d) = pushdown.more (to_run r) (to_system d)

pub from_run : {g : Prog} {n : Node} {s : List Frame} → pushdown.Reached (system g) (node (begin g)) n s → Reached g (state n s)
from_run pushdown.stay = at_first
from_run (pushdown.more r d) = by (from_run r) (from_system d)

-- runs over what waits
pub to_above : {g : Prog} {fs : List Frame} {s t : St} → Keeps g fs s t → pushdown.Above (system g) fs (node s) s.below (node t) t.below
to_above stay = pushdown.rest
to_above {g} {fs} {s} (more {t = t} {u = u} ws k e d) =
    pushdown.further ws (subst (pushdown.Above (system g) fs (node s) s.below (node t)) e (to_above k)) (subst (λ z. pushdown.Step (system g) (node t) z (node u) u.below) e (to_system d))

pub from_above : {g : Prog} {fs : List Frame} {n : Node} {s : List Frame} {m : Node} {t : List Frame} → pushdown.Above (system g) fs n s m t → Keeps g fs (state n s) (state m t)
from_above pushdown.rest = stay
from_above (pushdown.further ws k d) = more ws (from_above k) refl (from_system d)
