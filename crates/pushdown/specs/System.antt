-- Pushdown systems, over any types, and what they can do.
-- N: nodes, where a procedure can be. R: what waits for a return. X: what a return carries.
use Rattle.std.specs.Prelude.{◌≡◌, List, [], ◌∷◌, ◌++◌, ℕ, suc}

pub record Sys (N R X : Type 0) : Type 1 where
  -- a move within a procedure
  pub flow : N → N → Type 0
  -- a call: where the procedure called begins, and what waits meanwhile
  pub call : N → N → R → Type 0
  -- a return, and what it carries
  pub exit : N → X → Type 0
  -- where one that waits goes on when a return carries this to it
  pub resume : R → X → N

-- A configuration is a node and what waits, the newest first. One step from n with s waiting:
pub data Step {N R X : Type 0} (S : Sys N R X) : N → List R → N → List R → Type 0 where
  flows : {n m : N} {s : List R} → S.flow n m → Step S n s m s
  calls : {n m : N} {r : R} {s : List R} → S.call n m r → Step S n s m (r ∷ s)
  exits : {n : N} {x : X} {r : R} {s : List R} → S.exit n x → Step S n (r ∷ s) (S.resume r x) s

-- any number of steps from n with s waiting
pub data Run {N R X : Type 0} (S : Sys N R X) (n : N) (s : List R) : N → List R → Type 0 where
  stay : Run S n s n s
  more : {m p : N} {t u : List R} → Run S n s m t → Step S m t p u → Run S n s p u

-- how many steps a run has
pub steps : {N R X : Type 0} {S : Sys N R X} {n : N} {s : List R} {m : N} {t : List R} → Run S n s m t → ℕ
steps stay = 0
steps (more r d) = suc (steps r)

-- a run from the root, with nothing waiting, comes to n with s waiting
abbrev pub Reached : {N R X : Type 0} → Sys N R X → N → N → List R → Type 0
Reached S root n s = Run S root [] n s

-- a run in which no step begins with less waiting than z, the oldest of what waits
pub data Above {N R X : Type 0} (S : Sys N R X) (z : List R) (n : N) (s : List R) : N → List R → Type 0 where
  rest : Above S z n s n s
  further : {m p : N} {u : List R} (t : List R) → Above S z n s m (t ++ z) → Step S m (t ++ z) p u → Above S z n s p u

-- Summaries. Begun at e, a procedure can be at n, with the calls that it made all returned: at its
-- beginning; a move on; or, over a call, where a procedure begun at the call's target can return
pub data Inside {N R X : Type 0} (S : Sys N R X) : N → N → Type 0 where
  here : {e : N} → Inside S e e
  on : {e n m : N} → Inside S e n → S.flow n m → Inside S e m
  over : {e n m b : N} {r : R} {x : X} → Inside S e n → S.call n m r → Inside S m b → S.exit b x → Inside S e (S.resume r x)

-- begun at e, a procedure can return and carry x
abbrev pub Returns : {N R X : Type 0} → Sys N R X → N → X → Type 0
Returns {N} S e x = (b : N) × Inside S e b × S.exit b x

-- a procedure begun at e can call one that begins at m
abbrev pub Calls : {N R X : Type 0} → Sys N R X → N → N → Type 0
Calls {N} {R} S e m = (n : N) × (r : R) × Inside S e n × S.call n m r

-- where procedures begin, in runs from the root
pub data Entered {N R X : Type 0} (S : Sys N R X) (root : N) : N → Type 0 where
  first : Entered S root root
  enters : {e n m : N} {r : R} → Entered S root e → Inside S e n → S.call n m r → Entered S root m

-- d calls, each within the one before
pub data Chain {N R X : Type 0} (S : Sys N R X) : N → ℕ → Type 0 where
  stop : {e : N} → Chain S e 0
  link : {e m : N} {d : ℕ} → Calls S e m → Chain S m d → Chain S e (suc d)

-- returning through what waits: from n with s waiting, by returns alone, to m with t waiting
pub data Unwinds {N R X : Type 0} (S : Sys N R X) : N → List R → N → List R → Type 0 where
  stays : {n : N} {s : List R} → Unwinds S n s n s
  back : {n b m : N} {r : R} {x : X} {s t : List R} → Inside S n b → S.exit b x → Unwinds S (S.resume r x) s m t → Unwinds S n (r ∷ s) m t

-- who waits, where the first procedure was begun at e and the newest at m: each has come to its call
-- by steps of its own
pub data Waits {N R X : Type 0} (S : Sys N R X) (e : N) : N → List R → Type 0 where
  none : Waits S e e []
  then : {f n m : N} {r : R} {s : List R} → Waits S e f s → Inside S f n → S.call n m r → Waits S e m (r ∷ s)

-- the shape of a run from n with s waiting to m with t waiting: it returns through a part of s, then
-- calls stand one within another, and the newest procedure is inside at m
pub record Shape {N R X : Type 0} (S : Sys N R X) (n : N) (s : List R) (m : N) (t : List R) : Type 0 where
  pub from : N
  pub under : List R
  pub top : N
  pub above : List R
  pub unwound : Unwinds S n s from under
  pub waits : Waits S from top above
  pub inside : Inside S top m
  pub is : t ≡ above ++ under

-- a relation that is closed under the rules of summaries
pub record Closed {N R X : Type 0} (S : Sys N R X) (P : N → N → Type 0) : Type 0 where
  pub begins : {e : N} → P e e
  pub moves : {e n m : N} → P e n → S.flow n m → P e m
  pub passes : {e n m b : N} {r : R} {x : X} → P e n → S.call n m r → P m b → S.exit b x → P e (S.resume r x)
