-- Steps keep configurations well-formed, so what a well-formed program reaches is well-formed.
use Rattle.std.proofs.Common.{◌≡◌, ℕ, zero, suc, ◌+◌, ◌<◌, ◌≤◌, Bool, true, false, List, [], ◌∷◌, length, sym, ◌∙◌, arith, length-append, length-drop, length-take}
use mathlib.Core.Option.{some}
use Rattle.program.specs.Program.{pick, nth, put, I, set, open1, go, call, Proc, Prog, Frame, St, all, value}
use Rattle.program.specs.Rows.{Every, OkI, OkP, Reads}
use Rattle.program.specs.Runs.{with_all, to, step_at, back_to, Step, sets, opens, goes, calls, returns, runs_out, begin, Reached, at_first, by}
use Rattle.program.specs.WellFormed.{Good, FrameOk, StOk}
use Rattle.program.proofs.Nums.{length_blank, length_put}
use Rattle.program.proofs.Walk.{split, every_nth}

pub good : {s : List ℕ} {g : Prog} → Reads s g → Good g
good r = record { some_proc = r.some; procs = r.procs }

pub nth_lt : {A : Type 0} (l : List A) (n : ℕ) (x : A) → nth l n ≡ some x → n < length l
nth_lt [] n x e = absurd cc
nth_lt (y ∷ l) zero x e = omega arith
nth_lt (y ∷ l) (suc n) x e = omega (arith, nth_lt l n x e)

pub nth_some : {A : Type 0} (l : List A) (n : ℕ) → n < length l → (x : A) × (nth l n ≡ some x)
nth_some l n h = let p = split l n h in (p.0, p.1)

pub step_at_is : (g : Prog) (f : Frame) (p : Proc) → nth g.procs f.proc ≡ some p → step_at g f ≡ nth p.steps f.at
step_at_is g f p e = rw e

-- the step of a procedure at a place
pub ok_step : {g : Prog} → Good g → (f : ℕ) (p : Proc) (a : ℕ) (i : I) → nth g.procs f ≡ some p → nth p.steps a ≡ some i → OkI (g.shared + p.own) (length p.steps) (length g.procs) i
ok_step {g} w f p a i e h =
    let o = every_nth (OkP g.shared (length g.procs)) g.procs f p w.procs e in
    every_nth (OkI (g.shared + p.own) (length p.steps) (length g.procs)) p.steps a i o.steps h

module _ {g : Prog} (w : Good g) {s : St} (ok : StOk g s) where
  -- a step that stands at the place: there is a place behind it, and it is fine
  early : (i : I) → step_at g s.top ≡ some i → s.top.at < length ok.top.p.steps
  early i e = nth_lt ok.top.p.steps s.top.at i (sym (step_at_is g s.top ok.top.p ok.top.there) ∙ e)

  fine : (i : I) → step_at g s.top ≡ some i → OkI (g.shared + ok.top.p.own) (length ok.top.p.steps) (length g.procs) i
  fine i e = ok_step w s.top.proc ok.top.p s.top.at i ok.top.there (sym (step_at_is g s.top ok.top.p ok.top.there) ∙ e)

  put_kept : (x : ℕ) (b : Bool) → s.top.at < length ok.top.p.steps → StOk g (with_all s (put (all s) x b))
  put_kept x b l = record {
    shareds = simp (length-take, length_put, length-append) (omega arith);
    top = record { p = ok.top.p; there = ok.top.there; place = omega arith; owns = simp (length-drop, length_put, length-append) (omega arith) };
    below = ok.below;
  }

  to_kept : (a : ℕ) → a ≤ length ok.top.p.steps → StOk g (to s a)
  to_kept a h = record { shareds = ok.shareds; top = record { p = ok.top.p; there = ok.top.there; place = h; owns = ok.top.owns }; below = ok.below }

  back_kept : (f : Frame) (fs : List Frame) → s.below ≡ f ∷ fs → StOk g (back_to s f fs)
  back_kept f fs e = let h : Every (FrameOk g) (f ∷ fs) = rw e at ok.below in record { shareds = ok.shareds; top = h.0; below = h.1 }

  go_kept : (b : Bool) (t : ℕ) → t ≤ length ok.top.p.steps → s.top.at < length ok.top.p.steps → StOk g (pick b (to s t) (to s (s.top.at + 1)))
  go_kept true t h l = to_kept t h
  go_kept false t h l = to_kept (s.top.at + 1) (omega arith)

  pub kept : {t : St} → Step g s t → StOk g t
  kept (sets x e h) = put_kept x (value (all s) e) (early (set x e) h)
  kept (opens x b h) = put_kept x b (early (open1 x) h)
  kept (goes e t h) = go_kept (value (all s) e) t (fine (go e t) h).0 (early (go e t) h)
  kept (calls f p h k) = record {
    shareds = ok.shareds;
    top = record { p = p; there = k; place = omega arith; owns = length_blank p.own };
    below = (record { p = ok.top.p; there = ok.top.there; place = omega (arith, early (call f) h); owns = ok.top.owns }, ok.below);
  }
  kept (returns f fs h k) = back_kept f fs k
  kept (runs_out f fs h k) = back_kept f fs k

pub begin_ok : {g : Prog} → Good g → StOk g (begin g)
begin_ok {g} w =
    let r = nth_some g.procs 0 w.some_proc in
    record { shareds = length_blank g.shared; top = record { p = r.0; there = r.1; place = omega arith; owns = rw r.1 (length_blank r.0.own) }; below = tt }

pub reached_ok : {g : Prog} → Good g → {s : St} → Reached g s → StOk g s
reached_ok w at_first = begin_ok w
reached_ok w (by r d) = kept w (reached_ok w r) d
