-- The theorems that the contracts ask for.
use mathlib.Core.Path.{◌≡◌, refl, sym}
use mathlib.Core.Logic.Dec
use mathlib.Core.Logic.Iff
use mathlib.Core.Logic.{◌⊎◌, ◌↔◌, inl, inr}
use mathlib.Core.Bool.{Bool, true, false, decide, decide_iff}
use mathlib.Core.List.Memᴰ.{cases_cons}
use mathlib.Core.List.Memᴰ.{cast}
use mathlib.Core.List.Memᴰ.{head}
use mathlib.Core.List.Memᴰ.{not-nil}
use mathlib.Core.List.Memᴰ.{tail}
use mathlib.Core.List.{List, [], ◌∷◌, ◌++◌, Memᴰ as Mem}
use Prim.Native.Nat.{ℕ, zero, suc, ◌<◌}
use native.Mathlib.Omega.{arith}
use native.Mathlib.Decide.{dec_lt, ℕ_discrete}
use lib.ListN.{length}
use Rattle.pushdown.specs.System.{Sys, Step, Inside}
use Rattle.pushdown.specs.Listed.{Moves, sys}
use Rattle.pushdown.specs.Laws.{Laws, Decided}
use Rattle.pushdown.proofs.Runs.{more_below, less_below, run_is, inside_is, returns_is, least, reached_is, depth_is}
use Rattle.pushdown.proofs.Filling.{Any, any?, mem?}
use Rattle.pushdown.proofs.Decide.{Finite, inside?, reached?, deep?}

pub laws : {N R X : Type 0} (S : Sys N R X) → Laws S
laws {N} {R} S = record { more_below = λ {n} {m} {s} {t} z h. more_below z h; less_below = λ {n} {m} s z {u} l h. less s z l h; run_is = λ {n} {m} {s} {t}. run_is; inside_is = λ {e} {n}. inside_is; returns_is = λ {e} {m} r z. returns_is S r z; least = λ P h {e} {n} i. least h i; reached_is = λ {root} {n}. reached_is; depth_is = λ {root} {d}. depth_is }
  where
    less : {n m : N} (s z : List R) {u : List R} → 0 < length s → Step S n (s ++ z) m u → (t : List R) × (u ≡ t ++ z) × Step S n s m t
    less [] z l h = absurd (omega arith)
    less (r ∷ s) z l h = less_below h

pub upto : ℕ → List ℕ
upto zero = []
upto (suc n) = n ∷ upto n

pub in_upto : (t : ℕ) {n : ℕ} → n < t → Mem n (upto t)
unfolding upto
in_upto zero h = absurd (omega arith)
in_upto (suc t) {n} h = go (λ l. in_upto t l) (ℕ_discrete n t)
  where
    go : (n < t → Mem n (upto t)) → Dec (n ≡ t) → Mem n (upto (suc t))
    go ih (yes e) = head e
    go ih (no k) = tail (ih (omega arith))

pub of_upto : (t : ℕ) {n : ℕ} → Mem n (upto t) → n < t
unfolding upto
of_upto zero m = absurd (not-nil m)
of_upto (suc t) {n} m = go (of_upto t) (cases_cons m)
  where
    go : (Mem n (upto t) → n < t) → (n ≡ t) ⊎ Mem n (upto t) → n < suc t
    go ih (inl e) = omega arith
    go ih (inr k) = let h = ih k in omega arith

pub finite : {R X : Type 0} (M : Moves R X) → Finite (sys M)
finite {R} {X} M = record {
  nodes = upto M.bound;
  same = ℕ_discrete;
  flow? = λ n m. mem? ℕ_discrete m (M.flows n);
  call? = λ n m. Dec.of_iff (λ h. (h.0.1, cast (λ i. (sym h.2 i, h.0.1)) h.1), λ h. ((m, h.0), h.1, refl)) (any? (M.calls n) (λ p. p.0 ≡ m) (λ p. ℕ_discrete p.0 m));
  over? = λ n m b k. Dec.of_iff (λ h. (h.0.1, h.2.1.0, cast (λ i. (sym h.2.0 i, h.0.1)) h.1, h.2.1.1, h.2.1.2), λ h. ((m, h.0), h.2, (refl, (h.1, h.3, h.4))))
      (any? (M.calls n) (λ p. (p.0 ≡ m) × Any (M.exits b) (λ x. M.resume p.1 x ≡ k)) (λ p. Dec.and (ℕ_discrete p.0 m) (any? (M.exits b) (λ x. M.resume p.1 x ≡ k) (λ x. ℕ_discrete (M.resume p.1 x) k))));
  flow_in = λ {n} {m} k f. in_upto M.bound (M.flows_in n m (of_upto M.bound k) f);
  call_in = λ {n} {m} {r} k c. in_upto M.bound (M.calls_in n m r (of_upto M.bound k) c);
  over_in = λ {n} {m} {b} {r} {x} k c q y. in_upto M.bound (M.resume_in n m b r x (of_upto M.bound k) c (of_upto M.bound q) y);
}

pub decided : {R X : Type 0} (M : Moves R X) → Decided M
unfolding finite
decided {R} {X} M = record { test = λ e n. test e n (dec_lt e M.bound); tells = λ e n l. tells e n l (dec_lt e M.bound); reach = λ root n l. reached? (sys M) (finite M) root (in_upto M.bound l) n; deep = λ root l. deep? (sys M) (finite M) root (in_upto M.bound l) }
  where
    test : (e n : ℕ) → Dec (e < M.bound) → Bool
    test e n (yes l) = decide (inside? (sys M) (finite M) e n (in_upto M.bound l))
    test e n (no h) = false

    tells : (e n : ℕ) → e < M.bound → (d : Dec (e < M.bound)) → Inside (sys M) e n ↔ (test e n d ≡ true)
    tells e n l (yes k) = Iff.symm (decide_iff (inside? (sys M) (finite M) e n (in_upto M.bound k)))
    tells e n l (no h) = absurd (h l)
