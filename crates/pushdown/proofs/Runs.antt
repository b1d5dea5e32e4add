-- What runs are. One invariant along a run, its shape, gives the rest: a return goes to the newest
-- that waits, and that one has come to its call by steps of its own.
use mathlib.Core.Path.{◌≡◌, refl, sym, ap, subst, ◌∙◌}
use mathlib.Core.Logic.{◌↔◌, ◌⊎◌, inl, inr}
use mathlib.Core.List.{List, [], ◌∷◌, ◌++◌, append-nil, append_cancel_right}
use Prim.Native.Nat.{ℕ, ◌+◌}
use native.Mathlib.Omega.{arith}
use lib.ListN.{length, length-append}
use Rattle.pushdown.specs.System.{Sys, Step, flows, calls, exits, Run, stay, more, Reached, Above, rest, further, Inside, here, on, over, Returns, Entered, first, enters, Chain, stop, link, Unwinds, stays, back, Waits, none, then, Shape, Closed}

-- WHAT IS BELOW
pub more_below : {N R X : Type 0} {S : Sys N R X} {n m : N} {s t : List R} (z : List R) → Step S n s m t → Step S n (s ++ z) m (t ++ z)
more_below z (flows f) = flows f
more_below z (calls c) = calls c
more_below z (exits x) = exits x

pub less_below : {N R X : Type 0} {S : Sys N R X} {n m : N} {r : R} {s z u : List R} → Step S n (r ∷ (s ++ z)) m u → (t : List R) × (u ≡ t ++ z) × Step S n (r ∷ s) m t
less_below {r} {s} (flows f) = (r ∷ s, refl, flows f)
less_below {r} {s} (calls {r = q} c) = (q ∷ r ∷ s, refl, calls c)
less_below {r} {s} (exits x) = (s, refl, exits x)

-- THE SHAPE OF A RUN
-- a return from where unwinding came to
unwind : {N R X : Type 0} {S : Sys N R X} {n m b : N} {s t u : List R} {r : R} {x : X} → Unwinds S n s m u → u ≡ r ∷ t → Inside S m b → S.exit b x → Unwinds S n s (S.resume r x) t
unwind {S = S} {n = n} {b = b} {t = t} {r = r} {x = x} stays e i y = subst (λ z. Unwinds S n z (S.resume r x) t) (sym e) (back i y stays)
unwind (back j z w) e i y = back j z (unwind w e i y)

-- one step more
grow : {N R X : Type 0} {S : Sys N R X} {n m p : N} {s t u : List R} → Shape S n s m t → Step S m t p u → Shape S n s p u
grow h (flows f) = record { from = h.from; under = h.under; top = h.top; above = h.above; unwound = h.unwound; waits = h.waits; inside = on h.inside f; is = h.is }
grow h (calls {m = m} {r = r} c) = record { from = h.from; under = h.under; top = m; above = r ∷ h.above; unwound = h.unwound; waits = then h.waits h.inside c; inside = here; is = ap (λ z. r ∷ z) h.is }
grow {N} {R} {X} {S} {n} {m} {s = s} h (exits {x = x} {r = r} {s = u} y) = pop h.waits h.inside h.is
  where
    pop : {top : N} {above : List R} → Waits S h.from top above → Inside S top m → r ∷ u ≡ above ++ h.under → Shape S n s (S.resume r x) u
    pop none i e = record { from = S.resume r x; under = u; top = S.resume r x; above = []; unwound = unwind h.unwound (sym e) i y; waits = none; inside = here; is = refl }
    pop (then {f = f} {r = q} {s = v} w j c) i e =
        let same : q ≡ r = cc in
        let tail : u ≡ v ++ h.under = cc in
        record { from = h.from; under = h.under; top = f; above = v; unwound = h.unwound; waits = w; inside = subst (λ z. Inside S f (S.resume z x)) same (over j c i y); is = tail }

pub shape : {N R X : Type 0} {S : Sys N R X} {n : N} {s : List R} {m : N} {t : List R} → Run S n s m t → Shape S n s m t
shape {n = n} {s = s} stay = record { from = n; under = s; top = n; above = []; unwound = stays; waits = none; inside = here; is = refl }
shape (more r d) = grow (shape r) d

-- and back: steps within go on whatever waits
pub along : {N R X : Type 0} {S : Sys N R X} {n e m : N} {s t : List R} → Inside S e m → Run S n s e t → Run S n s m t
along here r = r
along (on i f) r = more (along i r) (flows f)
along (over i c j x) r = more (along j (more (along i r) (calls c))) (exits x)

pub returned : {N R X : Type 0} {S : Sys N R X} {n e m : N} {s t u : List R} → Unwinds S e t m u → Run S n s e t → Run S n s m u
returned stays r = r
returned (back i x w) r = returned w (more (along i r) (exits x))

pub called : {N R X : Type 0} {S : Sys N R X} {n e m : N} {s t u : List R} → Waits S e m u → Run S n s e t → Run S n s m (u ++ t)
called none r = r
called (then w i c) r = more (along i (called w r)) (calls c)

pub run_is : {N R X : Type 0} {S : Sys N R X} {n m : N} {s t : List R} → Run S n s m t ↔ Shape S n s m t
run_is {S = S} {n = n} {m = m} {s = s} = (shape, λ h. subst (Run S n s m) (sym h.is) (along h.inside (called h.waits (returned h.unwound stay))))

-- FROM NOTHING WAITING
pub record Stack {N R X : Type 0} (S : Sys N R X) (root n : N) (s : List R) : Type 0 where
  pub top : N
  pub waits : Waits S root top s
  pub inside : Inside S top n

alone : {N R X : Type 0} {S : Sys N R X} {n m : N} {t : List R} → Unwinds S n [] m t → (n ≡ m) × (t ≡ [])
alone stays = (refl, refl)

pub stack : {N R X : Type 0} {S : Sys N R X} {root n : N} {s : List R} → Reached S root n s → Stack S root n s
stack {S = S} {root = root} {s = s} r =
    let h = shape r in
    let a = alone h.unwound in
    let e : h.above ≡ s = sym (h.is ∙ ap (λ z. h.above ++ z) a.1 ∙ append-nil h.above) in
    record { top = h.top; waits = subst (λ z. Waits S z h.top s) (sym a.0) (subst (Waits S h.from h.top) e h.waits); inside = h.inside }

-- summaries are runs
pub inside_is : {N R X : Type 0} {S : Sys N R X} {e n : N} → Inside S e n ↔ Run S e [] n []
inside_is {N} {R} {X} {S} {e} {n} = (λ i. along i stay, λ r. let h = stack r in own h.waits h.inside)
  where
    own : {top : N} → Waits S e top [] → Inside S top n → Inside S e n
    own none i = i

-- reached is entered and inside
entered : {N R X : Type 0} {S : Sys N R X} {root e : N} {s : List R} → Waits S root e s → Entered S root e
entered none = first
entered (then w i c) = enters (entered w) i c

waiting : {N R X : Type 0} {S : Sys N R X} {root e : N} → Entered S root e → (s : List R) × Waits S root e s
waiting first = ([], none)
waiting (enters {r = r} h i c) = let w = waiting h in (r ∷ w.0, then w.1 i c)

pub reached_is : {N R X : Type 0} {S : Sys N R X} {root n : N} → ((s : List R) × Reached S root n s) ↔ ((e : N) × Entered S root e × Inside S e n)
reached_is {S = S} {root = root} {n = n} = (
  λ h. let k = stack h.1 in (k.top, entered k.waits, k.inside),
  λ h. let w = waiting h.1 in (w.0, along h.2 (subst (Run S root [] h.0) (append-nil w.0) (called w.1 stay))),
)

-- RETURNS, OVER WHAT WAITS
module _ {N R X : Type 0} (S : Sys N R X) where
  -- a run above z is one with nothing waiting, until it returns to the first of z
  record Still (z : List R) (e m : N) (t : List R) : Type 0 where
    part : List R
    is : t ≡ part ++ z
    run : Run S e [] m part

  record Gone (z : List R) (e m : N) (t : List R) : Type 0 where
    r : R
    x : X
    z_is : z ≡ r ∷ t
    returns : Returns S e x
    m_is : m ≡ S.resume r x

  out : {z : List R} {e m p : N} {u : List R} → Run S e [] m [] → Step S m z p u → Still z e p u ⊎ Gone z e p u
  out r (flows f) = inl (record { part = []; is = refl; run = more r (flows f) })
  out r (calls {r = q} c) = inl (record { part = q ∷ []; is = refl; run = more r (calls c) })
  out {m = m} r (exits {x = x} {r = q} y) = inr (record { r = q; x = x; z_is = refl; returns = (m, inside_is.1 r, y); m_is = refl })

  onward : {z : List R} {e m p : N} {u : List R} (t : List R) → Run S e [] m t → Step S m (t ++ z) p u → Still z e p u ⊎ Gone z e p u
  onward [] r d = out r d
  onward (q ∷ t) r d = let h = less_below d in inl (record { part = h.0; is = h.1; run = more r h.2 })

  again : {z : List R} {e m p : N} {u : List R} (t : List R) → Still z e m (t ++ z) ⊎ Gone z e m (t ++ z) → Step S m (t ++ z) p u → Still z e p u ⊎ Gone z e p u
  again {z} {e} {m} t (inl h) d = onward t (subst (Run S e [] m) (sym (append_cancel_right t h.part z h.is)) h.run) d
  again {z} t (inr h) d = absurd (omega (arith, simp length-append at (ap length h.z_is)))

  sort : {z : List R} {e m : N} {t : List R} → Above S z e z m t → Still z e m t ⊎ Gone z e m t
  sort rest = inl (record { part = []; is = refl; run = stay })
  sort (further t a d) = again t (sort a) d

  lift : {z s : List R} {n e m : N} (t : List R) → Inside S e m → Above S z n s e (t ++ z) → Above S z n s m (t ++ z)
  lift t here a = a
  lift t (on i f) a = further t (lift t i a) (flows f)
  lift t (over {r = q} i c j x) a = further (q ∷ t) (lift (q ∷ t) j (further t (lift t i a) (calls c))) (exits x)

  pub returns_is : {e m : N} (r : R) (z : List R) → Above S (r ∷ z) e (r ∷ z) m z ↔ ((x : X) × Returns S e x × (m ≡ S.resume r x))
  returns_is {e} {m} r z = (λ a. last (sort a), λ h. subst (λ k. Above S (r ∷ z) e (r ∷ z) k z) (sym h.2) (further [] (lift [] h.1.1 rest) (exits h.1.2)))
    where
      last : Still (r ∷ z) e m z ⊎ Gone (r ∷ z) e m z → (x : X) × Returns S e x × (m ≡ S.resume r x)
      last (inl h) = absurd (omega (arith, simp length-append at (ap length h.is)))
      last (inr h) = let same : h.r ≡ r = cc in (h.x, h.returns, h.m_is ∙ ap (λ q. S.resume q h.x) same)

-- THE LEAST RELATION
pub least : {N R X : Type 0} {S : Sys N R X} {P : N → N → Type 0} {e n : N} → Closed S P → Inside S e n → P e n
least h here = h.begins
least h (on i f) = h.moves (least h i) f
least h (over i c j x) = h.passes (least h i) c (least h j) x

-- HOW MANY WAIT
chain_of : {N R X : Type 0} {S : Sys N R X} {root e : N} {s : List R} {d : ℕ} (k : ℕ) → length s + d ≡ k → Waits S root e s → Chain S e d → Chain S root k
chain_of {S = S} {root = root} k h none ch = subst (Chain S root) (omega arith) ch
chain_of k h (then {n = n} {r = r} w i c) ch = chain_of k (omega arith) w (link (n, r, i, c) ch)

waits_of : {N R X : Type 0} {S : Sys N R X} {root e : N} {d : ℕ} (s : List R) → Chain S e d → Waits S root e s → (m : N) × (t : List R) × Waits S root m t × (length t ≡ length s + d)
waits_of {e = e} s stop w = (e, s, w, omega arith)
waits_of s (link h ch) w = let k = waits_of (h.1 ∷ s) ch (then w h.2 h.3) in (k.0, k.1, k.2, omega (arith, k.3))

pub depth_is : {N R X : Type 0} {S : Sys N R X} {root : N} {d : ℕ} → ((n : N) × (s : List R) × Reached S root n s × (length s ≡ d)) ↔ Chain S root d
depth_is {S = S} {root = root} {d = d} = (
  λ h. let k = stack h.2 in chain_of d (omega (arith, h.3)) k.waits stop,
  λ ch. let k = waits_of [] ch none in (k.0, k.1, subst (Run S root [] k.0) (append-nil k.1) (called k.2 stay), omega (arith, k.3)),
)
