-- The theorems.
use Rattle.std.specs.Prelude.{◌≡◌, ◌⊎◌, ◌↔◌, Bool, true, List, [], ◌∷◌, ◌++◌, ℕ, ◌≤◌, ◌<◌, length}
use Rattle.pushdown.specs.System.{Sys, Step, Run, Reached, Above, Inside, Returns, Entered, Chain, Shape, Closed}
use Rattle.pushdown.specs.Listed.{Moves, sys}

-- over any system
pub record Laws {N R X : Type 0} (S : Sys N R X) : Type 0 where
  -- what waits further below doesn't matter, in both directions
  pub more_below : {n m : N} {s t : List R} (z : List R) → Step S n s m t → Step S n (s ++ z) m (t ++ z)
  pub less_below : {n m : N} (s z : List R) {u : List R} → 0 < length s → Step S n (s ++ z) m u → (t : List R) × (u ≡ t ++ z) × Step S n s m t
  -- every run has its shape, and whatever has this shape is a run
  pub run_is : {n m : N} {s t : List R} → Run S n s m t ↔ Shape S n s m t
  -- summaries are what runs do: with nothing waiting at either end
  pub inside_is : {e n : N} → Inside S e n ↔ Run S e [] n []
  -- and over anything that waits: a procedure returns to r, and never below before
  pub returns_is : {e m : N} (r : R) (z : List R) → Above S (r ∷ z) e (r ∷ z) m z ↔ ((x : X) × Returns S e x × (m ≡ S.resume r x))
  -- summaries are the least relation closed under their rules; relations here are tests, since a
  -- theorem over all relations is too large for a contract
  pub least : (P : N → N → Bool) → Closed S (λ e n. P e n ≡ true) → {e n : N} → Inside S e n → P e n ≡ true
  -- a node is reached exactly if a procedure that was entered can be inside there
  pub reached_is : {root n : N} → ((s : List R) × Reached S root n s) ↔ ((e : N) × Entered S root e × Inside S e n)
  -- d can wait exactly if there is a chain of d calls
  pub depth_is : {root : N} {d : ℕ} → ((n : N) × (s : List R) × Reached S root n s × (length s ≡ d)) ↔ Chain S root d

-- the greatest number that can wait, or that any number can
abbrev pub Deepest : {N R X : Type 0} → Sys N R X → N → Type 0
Deepest {N} {R} S root =
    ((d : ℕ) × ((n : N) × (s : List R) × Reached S root n s × (length s ≡ d)) × ((n : N) (s : List R) → Reached S root n s → length s ≤ d))
    ⊎ ((d : ℕ) → (n : N) × (s : List R) × Reached S root n s × (d < length s))

-- with finitely many nodes all of it can be told
pub record Decided {R X : Type 0} (M : Moves R X) : Type 0 where
  pub test : ℕ → ℕ → Bool
  pub tells : (e n : ℕ) → e < M.bound → (Inside (sys M) e n ↔ (test e n ≡ true))
  pub reach : (root n : ℕ) → root < M.bound → Dec ((s : List R) × Reached (sys M) root n s)
  pub deep : (root : ℕ) → root < M.bound → Deepest (sys M) root
