-- How many calls there are: those of different procedures are different steps.
use Rattle.std.proofs.Common.{◌≡◌, ℕ, zero, suc, ◌+◌, ◌*◌, ◌≤◌, List, [], ◌∷◌, length, drop, refl, ap, ◌∙◌, add-one, arith}
use mathlib.Core.Option.{some}
use Rattle.program.specs.Program.{nth, I, set, open1, go, call, return, Proc}
use Rattle.program.specs.Rows.{Every, OkP}
use Rattle.program.proofs.Kept.{nth_lt}
use Rattle.program.proofs.Walk.{split}
use Rattle.expansion.specs.Sites.{steps}
use Rattle.expansion.specs.Listing.{same, hit, calls_in, calls_of}

pub same_same : (e : ℕ) → same e e ≡ 1
same_same zero = refl
same_same (suc e) = same_same e

-- 1 if d is below m, else 0
unfoldable pub less : ℕ → ℕ → ℕ
less d zero = 0
less zero (suc m) = 1
less (suc d) (suc m) = less d m

less_more : (d m : ℕ) → less d (suc m) ≡ less d m + same m d
unfolding less
less_more zero zero = refl
less_more zero (suc m) = refl
less_more (suc d) zero = refl
less_more (suc d) (suc m) = less_more d m

less_one : (d m : ℕ) → less d m ≤ 1
unfolding less
less_one d zero = omega arith
less_one zero (suc m) = omega arith
less_one (suc d) (suc m) = less_one d m

-- calls of procedures below m
unfoldable pub hits : ℕ → I → ℕ
hits m (set x y) = 0
hits m (open1 x) = 0
hits m (go y t) = 0
hits m (call d) = less d m
hits m return = 0

hits_more : (m : ℕ) (i : I) → hits (suc m) i ≡ hits m i + hit m i
unfolding hits
hits_more m (set x y) = refl
hits_more m (open1 x) = refl
hits_more m (go y t) = refl
hits_more m (call d) = less_more d m
hits_more m return = refl

hits_one : (m : ℕ) (i : I) → hits m i ≤ 1
unfolding hits
hits_one m (set x y) = omega arith
hits_one m (open1 x) = omega arith
hits_one m (go y t) = omega arith
hits_one m (call d) = less_one d m
hits_one m return = omega arith

unfoldable pub below_in : ℕ → List I → ℕ
below_in m [] = 0
below_in m (i ∷ is) = hits m i + below_in m is

below_in_more : (m : ℕ) (is : List I) → below_in (suc m) is ≡ below_in m is + calls_in m is
unfolding below_in calls_in
below_in_more m [] = refl
below_in_more m (i ∷ is) = omega (arith, hits_more m i, below_in_more m is)

below_in_few : (m : ℕ) (is : List I) → below_in m is ≤ length is
unfolding below_in
below_in_few m [] = omega arith
below_in_few m (i ∷ is) = omega (arith, hits_one m i, below_in_few m is)

-- in all procedures
unfoldable pub below_of : ℕ → List Proc → ℕ
below_of m [] = 0
below_of m (p ∷ ps) = below_in m p.steps + below_of m ps

below_next : (m : ℕ) (ps : List Proc) → below_of (suc m) ps ≡ below_of m ps + calls_of m ps
unfolding below_of calls_of
below_next m [] = refl
below_next m (p ∷ ps) = omega (arith, below_in_more m p.steps, below_next m ps)

pub below_more : (m : ℕ) (ps : List Proc) → below_of (m + 1) ps ≡ below_of m ps + calls_of m ps
below_more m ps = rw add-one (below_next m ps)

pub below_few : (m : ℕ) (ps : List Proc) → below_of m ps ≤ steps ps
unfolding below_of
below_few m [] = omega arith
below_few m (p ∷ ps) = omega (arith, below_in_few m p.steps, below_few m ps)

-- all steps of a program are few
pub steps_few : (k m : ℕ) (ps : List Proc) → Every (OkP k m) ps → steps ps ≤ length ps * 255
steps_few k m [] o = omega arith
steps_few k m (p ∷ ps) o = omega (arith, o.0.short, steps_few k m ps o.1)

-- what stands at a place is the first of those from there on
drop_at : {A : Type 0} (xs : List A) (n : ℕ) (x : A) → nth xs n ≡ some x → drop n xs ≡ x ∷ drop (n + 1) xs
drop_at xs n x h = let k = split xs n (nth_lt xs n x h) in rw add-one (k.2 ∙ ap (λ y. y ∷ drop (suc n) xs) (let e = k.1 in cc))

pub calls_step : (e a : ℕ) (is : List I) (i : I) → nth is a ≡ some i → calls_in e (drop a is) ≡ hit e i + calls_in e (drop (a + 1) is)
unfolding calls_in
calls_step e a is i h = ap (calls_in e) (drop_at is a i h)

pub calls_proc : (e f : ℕ) (ps : List Proc) (p : Proc) → nth ps f ≡ some p → calls_of e (drop f ps) ≡ calls_in e p.steps + calls_of e (drop (f + 1) ps)
unfolding calls_of
calls_proc e f ps p h = ap (calls_of e) (drop_at ps f p h)
