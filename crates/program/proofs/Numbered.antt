-- A program's runs and those of its numbered system are the same: each step is a move on numbers, and
-- each move of a reached node's number is a step. Proved over well-formed configurations.
use Rattle.std.proofs.Common.{◌≡◌, ℕ, ◌+◌, ◌*◌, ◌/◌, ◌%◌, ◌^◌, Bool, true, false, ◌⊎◌, ◌↔◌, List, [], ◌∷◌, map, length, sym, refl, ap, ◌∙◌, subst, inl, inr, arith, length-append, take-append-drop}
use mathlib.Core.Option.{Option, some, none}
use lib.Arith.{digits_lt}
use Rattle.pushdown.specs.System as pushdown
use Rattle.program.specs.Program.{pick, nth, put, blank, I, set, open1, go, call, return, Proc, Prog, Frame, St, all, value}
use Rattle.program.specs.Table.{num, spot}
use Rattle.program.specs.Values.{bits}
use Rattle.program.specs.Runs.{with_all, to, next, step_at, back_to, Step, sets, opens, goes, calls, returns, runs_out, begin, Reached, at_first, by, Can}
use Rattle.program.specs.WellFormed.{Good, StOk}
use Rattle.program.specs.Numbers.{Fits, loc, Loc, Move, on, down, up, proc_at, move_at, MoveOf, numbered}
use Rattle.program.proofs.Sizes.{before_none}
use Rattle.program.proofs.Nums.{bits_of, num_lt, num_append, low_part, high_part, num_blank}
use Rattle.program.proofs.Spots.{before_inj, digits_inj, spot_mod, spot_inj}
use Rattle.program.proofs.Kept.{step_at_is, nth_some, ok_step, reached_ok}

-- the number of what is at work, and of what waits, with no shared variable set
abbrev pub code : Prog → St → ℕ
code g s = loc g s.top.proc (proc_at g s.top.proc) s.top.at (num (all s))

abbrev pub code_frame : Prog → Frame → ℕ
code_frame g f = loc g f.proc (proc_at g f.proc) f.at (num f.vars * 2 ^ g.shared)

abbrev pub codes : Prog → List Frame → List ℕ
codes g fs = map (code_frame g) fs

-- a number is one procedure, place and values
pub loc_inj : {g : Prog} {n f f' : ℕ} {p p' : Proc} {a a' v v' : ℕ} → Loc g n f p a v → Loc g n f' p' a' v' → (f ≡ f') × (p ≡ p') × (a ≡ a') × (v ≡ v')
loc_inj {g} {n} {f} {f'} {p} {p'} {a} {a'} {v} {v'} h h' =
    let r = before_inj g.shared g.procs f f' p p' (a * 2 ^ (g.shared + p.own) + v) (a' * 2 ^ (g.shared + p'.own) + v') h.there h'.there (digits_lt (omega arith) h.small) (digits_lt (omega arith) h'.small) (sym h.is ∙ h'.is) in
    let q : some p ≡ some p' = sym h.there ∙ ap (nth g.procs) r.0 ∙ h'.there in
    let pe : p ≡ p' = cc in
    let oe : p.own ≡ p'.own = ap (λ (z : Proc). z.own) pe in
    let d = digits_inj (2 ^ (g.shared + p.own)) a a' v v' h.small (rw oe h'.small) (rw oe (rw oe at r.1)) in
    (r.0, pe, d.0, d.1)

-- so its moves are those of any way to find it
pub move_is : {g : Prog} {n f : ℕ} {p : Proc} {a v : ℕ} {m : Move} → Loc g n f p a v → MoveOf g n m → m ≡ move_at g f p a v (nth p.steps a)
move_is h o = let q = loc_inj o.at h in o.is ∙ rw (q.0, q.1, q.2, q.3)

-- the parts of a move
pub fst_of : {x y z u : ℕ} → on x y ≡ on z u → x ≡ z
fst_of e = cc

pub snd_of : {x y z u : ℕ} → on x y ≡ on z u → y ≡ u
snd_of e = cc

pub one_of : {x y z m : ℕ} → on x y ≡ on z z → (m ≡ x) ⊎ (m ≡ y) → m ≡ z
one_of e (inl k) = k ∙ fst_of e
one_of e (inr k) = k ∙ snd_of e

pub callee_of : {x y z u : ℕ} → down x y ≡ down z u → x ≡ z
callee_of e = cc

pub waiter_of : {x y z u : ℕ} → down x y ≡ down z u → y ≡ u
waiter_of e = cc

-- a step of the program for a move
pub record Did (g : Prog) (s : St) (m : ℕ) (cs : List ℕ) : Type 0 where
  pub t : St
  pub step : Step g s t
  pub top_is : code g t ≡ m
  pub below_is : codes g t.below ≡ cs

module _ {g : Prog} (w : Good g) {s : St} (ok : StOk g s) where
  abbrev f0 : ℕ
  f0 = s.top.proc

  abbrev p0 : Proc
  p0 = ok.top.p

  abbrev a0 : ℕ
  a0 = s.top.at

  fits : Fits g f0 p0 a0 s.shared s.top.vars
  fits = record { there = ok.top.there; place = ok.top.place; shareds = ok.shareds; owns = ok.top.owns }

  all_long : length (all s) ≡ g.shared + p0.own
  all_long = rw (length-append s.shared s.top.vars, ok.shareds, ok.top.owns)

  pub top_loc : Loc g (code g s) f0 p0 a0 (num (all s))
  top_loc = record { there = ok.top.there; place = ok.top.place; small = rw all_long at (num_lt (all s)); is = rw ok.top.there }

  pub top_mod : code g s % 2 ^ g.shared ≡ num s.shared
  top_mod = rw ok.top.there (spot_mod fits)

  low : num (all s) % 2 ^ g.shared ≡ num s.shared
  low = rw ok.shareds at (low_part s.shared s.top.vars)

  pub top_bits : bits (g.shared + p0.own) (num (all s)) ≡ all s
  top_bits = bits_of (g.shared + p0.own) (all s) all_long

  -- what the steps of a state do to its number
  put_code : (x : ℕ) (b : Bool) → code g (with_all s (put (all s) x b)) ≡ loc g f0 p0 (a0 + 1) (num (put (all s) x b))
  put_code x b = rw (take-append-drop (length s.shared) (put (all s) x b), ok.top.there)

  to_code : (b : Bool) (t u : ℕ) → code g (pick b (to s t) (to s u)) ≡ loc g f0 p0 (pick b t u) (num (all s))
  to_code true t u = rw ok.top.there
  to_code false t u = rw ok.top.there

  to_below : (b : Bool) (t u : ℕ) → (pick b (to s t) (to s u)).below ≡ s.below
  to_below true t u = refl
  to_below false t u = refl

  call_code : (d : ℕ) (p : Proc) (fs : List Frame) → nth g.procs d ≡ some p →
      code g (record { shared = s.shared; top = record { proc = d; at = 0; vars = blank p.own }; below = fs }) ≡ loc g d (proc_at g d) 0 (num (all s) % 2 ^ g.shared)
  call_code d p fs e = rw (low, e, num_append s.shared (blank p.own), num_blank p.own) (omega arith)

  next_code : code_frame g (next s.top) ≡ loc g f0 p0 (a0 + 1) (num (all s) / 2 ^ g.shared * 2 ^ g.shared)
  next_code = rw (ok.top.there, rw ok.shareds at (high_part s.shared s.top.vars))

  back_code : (f : Frame) (fs : List Frame) → code g (back_to s f fs) ≡ code_frame g f + code g s % 2 ^ g.shared
  back_code f fs = rw (top_mod, num_append s.shared f.vars, ok.shareds) (omega arith)

  -- the move at a state's number, by its step
  moves : (o : Option I) → step_at g s.top ≡ o → MoveOf g (code g s) (move_at g f0 p0 a0 (num (all s)) o)
  moves o e = record { f = f0; p = p0; a = a0; v = num (all s); at = top_loc; is = ap (move_at g f0 p0 a0 (num (all s))) (sym e ∙ step_at_is g s.top p0 ok.top.there) }

  -- forwards
  abbrev Moves : ℕ → List ℕ → Type 0
  Moves m cs = pushdown.Step (numbered g) (code g s) (codes g s.below) m cs

  popped : (f : Frame) (fs : List Frame) → MoveOf g (code g s) up → s.below ≡ f ∷ fs → Moves (code g (back_to s f fs)) (codes g fs)
  popped f fs o k =
      subst (λ z. Moves z (codes g fs)) (sym (back_code f fs))
      (subst (λ b. pushdown.Step (numbered g) (code g s) (codes g b) (code_frame g f + code g s % 2 ^ g.shared) (codes g fs)) (sym k) (pushdown.exits (o, refl)))

  pub forward : {t : St} → Step g s t → Moves (code g t) (codes g t.below)
  forward (sets x e h) = pushdown.flows (_, _, moves (some (set x e)) h, inl (rw top_bits (put_code x (value (all s) e))))
  forward (opens x b h) = pushdown.flows (_, _, moves (some (open1 x)) h, either b)
    where
      either : (b : Bool) → (code g (with_all s (put (all s) x b)) ≡ loc g f0 p0 (a0 + 1) (num (put (bits (g.shared + p0.own) (num (all s))) x true))) ⊎ (code g (with_all s (put (all s) x b)) ≡ loc g f0 p0 (a0 + 1) (num (put (bits (g.shared + p0.own) (num (all s))) x false)))
      either true = inl (rw top_bits (put_code x true))
      either false = inr (rw top_bits (put_code x false))
  forward (goes e t h) =
      let b = value (all s) e in
      subst (λ fs. Moves (code g (pick b (to s t) (to s (a0 + 1)))) (codes g fs)) (sym (to_below b t (a0 + 1)))
      (pushdown.flows (_, _, moves (some (go e t)) h, inl (rw top_bits (to_code b t (a0 + 1)))))
  forward (calls d p h k) =
      let mo = moves (some (call d)) h in
      pushdown.calls (subst (λ z. MoveOf g (code g s) (down z (code_frame g (next s.top)))) (sym (call_code d p (next s.top ∷ s.below) k)) (subst (λ z. MoveOf g (code g s) (down (loc g d (proc_at g d) 0 (num (all s) % 2 ^ g.shared)) z)) (sym next_code) mo))
  forward (returns f fs h k) = popped f fs (moves (some return) h) k
  forward (runs_out f fs h k) = popped f fs (moves none h) k

  -- backwards, by the step at the place
  abbrev at_here : Option I → Move
  at_here o = move_at g f0 p0 a0 (num (all s)) o

  put_did : (x : ℕ) (b : Bool) (m : ℕ) → Step g s (with_all s (put (all s) x b)) → m ≡ loc g f0 p0 (a0 + 1) (num (put (bits (g.shared + p0.own) (num (all s))) x b)) → Did g s m (codes g s.below)
  put_did x b m d e = record { t = with_all s (put (all s) x b); step = d; top_is = put_code x b ∙ sym (rw top_bits at e); below_is = refl }

  flow_did : (o : Option I) → step_at g s.top ≡ o → (x y m : ℕ) → on x y ≡ at_here o → (m ≡ x) ⊎ (m ≡ y) → Did g s m (codes g s.below)
  flow_did none h x y m e k = absurd cc
  flow_did (some (set v i)) h x y m e k = put_did v (value (all s) i) m (sets v i h) (rw top_bits (rw top_bits at (one_of e k)))
  flow_did (some (open1 v)) h x y m e (inl k) = put_did v true m (opens v true h) (k ∙ fst_of e)
  flow_did (some (open1 v)) h x y m e (inr k) = put_did v false m (opens v false h) (k ∙ snd_of e)
  flow_did (some (go i t)) h x y m e k =
      let b = value (all s) i in
      record { t = pick b (to s t) (to s (a0 + 1)); step = goes i t h; top_is = to_code b t (a0 + 1) ∙ sym (rw top_bits at (one_of e k)); below_is = ap (codes g) (to_below b t (a0 + 1)) }
  flow_did (some (call d)) h x y m e k = absurd cc
  flow_did (some return) h x y m e k = absurd cc

  call_did : (o : Option I) → step_at g s.top ≡ o → (m r : ℕ) → down m r ≡ at_here o → Did g s m (r ∷ codes g s.below)
  call_did none h m r e = absurd cc
  call_did (some (set v i)) h m r e = absurd cc
  call_did (some (open1 v)) h m r e = absurd cc
  call_did (some (go i t)) h m r e = absurd cc
  call_did (some (call d)) h m r e =
      let q = nth_some g.procs d (ok_step w f0 p0 a0 (call d) ok.top.there (sym (step_at_is g s.top p0 ok.top.there) ∙ h)) in
      record {
        t = record { shared = s.shared; top = record { proc = d; at = 0; vars = blank q.0.own }; below = next s.top ∷ s.below };
        step = calls d q.0 h q.1;
        top_is = call_code d q.0 (next s.top ∷ s.below) q.1 ∙ sym (callee_of e);
        below_is = ap (λ z. z ∷ codes g s.below) (next_code ∙ sym (waiter_of e));
      }
  call_did (some return) h m r e = absurd cc

  up_did : (o : Option I) → step_at g s.top ≡ o → up ≡ at_here o → (f : Frame) (fs : List Frame) → s.below ≡ f ∷ fs → Did g s (code_frame g f + code g s % 2 ^ g.shared) (codes g fs)
  up_did none h e f fs k = record { t = back_to s f fs; step = runs_out f fs h k; top_is = back_code f fs; below_is = refl }
  up_did (some (set v i)) h e f fs k = absurd cc
  up_did (some (open1 v)) h e f fs k = absurd cc
  up_did (some (go i t)) h e f fs k = absurd cc
  up_did (some (call d)) h e f fs k = absurd cc
  up_did (some return) h e f fs k = record { t = back_to s f fs; step = returns f fs h k; top_is = back_code f fs; below_is = refl }

  here : {m : Move} → MoveOf g (code g s) m → m ≡ at_here (step_at g s.top)
  here o = move_is top_loc o ∙ ap at_here (sym (step_at_is g s.top p0 ok.top.there))

  pub backward : {bs cs : List ℕ} {m : ℕ} → codes g s.below ≡ bs → pushdown.Step (numbered g) (code g s) bs m cs → Did g s m cs
  backward {m = m} e (pushdown.flows h) = subst (Did g s m) e (flow_did (step_at g s.top) refl h.0 h.1 m (here h.2) h.3)
  backward {m = m} e (pushdown.calls {r = r} h) = subst (λ bs. Did g s m (r ∷ bs)) e (call_did (step_at g s.top) refl m r (here h))
  backward e (pushdown.exits {x = x} {r = r} {s = cs} h) = off s.below refl e
    where
      off : (b : List Frame) → s.below ≡ b → codes g b ≡ r ∷ cs → Did g s (r + x) cs
      off [] k q = absurd cc
      off (f ∷ fs) k q =
          let rq : code_frame g f ≡ r = cc in
          let cq : codes g fs ≡ cs = cc in
          subst (Did g s (r + x)) cq (subst (λ z. Did g s (r + z) (codes g fs)) (sym h.1) (subst (λ z. Did g s (z + code g s % 2 ^ g.shared) (codes g fs)) rq (up_did (step_at g s.top) refl (here h.0) f fs k)))

-- runs
pub begin_code : {g : Prog} → Good g → code g (begin g) ≡ 0
begin_code {g} w =
    let r = nth_some g.procs 0 w.some_proc in
    rw (before_none g.shared g.procs, r.1, num_append (blank g.shared) (blank r.0.own), num_blank g.shared, num_blank r.0.own) (omega arith)

pub to_numbers : {g : Prog} → Good g → {s : St} → Reached g s → pushdown.Reached (numbered g) 0 (code g s) (codes g s.below)
to_numbers {g} w at_first = subst (λ n. pushdown.Reached (numbered g) 0 n []) (sym (begin_code w)) pushdown.stay
to_numbers w (by r d) = pushdown.more (to_numbers w r) (forward w (reached_ok w r) d)

-- a run of the program for one on numbers
pub record From (g : Prog) (n : ℕ) (bs : List ℕ) : Type 0 where
  pub s : St
  pub reached : Reached g s
  pub top_is : code g s ≡ n
  pub below_is : codes g s.below ≡ bs

further : {g : Prog} → Good g → {n m : ℕ} {bs cs : List ℕ} → From g n bs → pushdown.Step (numbered g) n bs m cs → From g m cs
further {g} w {m = m} {bs = bs} {cs = cs} r d =
    let u = backward w (reached_ok w r.reached) r.below_is (subst (λ z. pushdown.Step (numbered g) z bs m cs) (sym r.top_is) d) in
    record { s = u.t; reached = by r.reached u.step; top_is = u.top_is; below_is = u.below_is }

pub from_numbers : {g : Prog} → Good g → {n : ℕ} {bs : List ℕ} → pushdown.Reached (numbered g) 0 n bs → From g n bs
from_numbers {g} w pushdown.stay = record { s = begin g; reached = at_first; top_is = begin_code w; below_is = refl }
from_numbers w (pushdown.more r d) = further w (from_numbers w r) d

-- a place with values can be come to exactly if its number is reached
pub can_iff : {g : Prog} {f : ℕ} {p : Proc} {a : ℕ} {sh own : List Bool} → Good g → Fits g f p a sh own → Can g f a sh own ↔ ((bs : List ℕ) × pushdown.Reached (numbered g) 0 (spot g f p a sh own) bs)
can_iff {g} {f} {p} {a} {sh} {own} w h = (
  λ c. let e : code g c.0 ≡ spot g f p a sh own = rw (c.2, c.3, c.4, c.5, h.there) in (codes g c.0.below, subst (λ n. pushdown.Reached (numbered g) 0 n (codes g c.0.below)) e (to_numbers w c.1)),
  λ c.
      let r = from_numbers w c.1 in
      let ok = reached_ok w r.reached in
      let q = spot_inj (fits w ok) h (sym (top_loc w ok).is ∙ r.top_is) in
      (r.s, r.reached, q.f_is, q.a_is, q.sh_is, q.own_is),
)
