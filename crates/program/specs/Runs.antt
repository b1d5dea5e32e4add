-- What a program can do: its steps, its runs, and where it can be.
use Rattle.std.specs.Prelude.{◌≡◌, ℕ, ◌+◌, Bool, List, [], ◌∷◌, ◌++◌, length, take, drop}
use Rattle.std.proofs.Math.Option.{Option, some, none}
use Rattle.program.specs.Program.{pick, nth, put, blank, E, I, set, open1, go, call, return, Proc, Prog, Frame, St, value, all}

-- the step that comes next in a procedure that has begun: none behind its last one
abbrev pub step_at : Prog → Frame → Option I
step_at g f = at1 (nth g.procs f.proc)
  where
    at1 : Option Proc → Option I
    at1 none = none
    at1 (some p) = nth p.steps f.at

-- the same frame, at the next place
abbrev pub next : Frame → Frame
next f = record { proc = f.proc; at = f.at + 1; vars = f.vars }

-- the procedure at work goes to place t
abbrev pub to : St → ℕ → St
to s t = record { shared = s.shared; top = record { proc = s.top.proc; at = t; vars = s.top.vars }; below = s.below }

-- the procedure at work goes on to the next place, and its variables, the shared ones first, are vs
abbrev pub with_all : St → List Bool → St
with_all s vs = record { shared = take (length s.shared) vs; top = record { proc = s.top.proc; at = s.top.at + 1; vars = drop (length s.shared) vs }; below = s.below }

-- the newest that waits goes on, with its own variables as they were
abbrev pub back_to : St → Frame → List Frame → St
back_to s f fs = record { shared = s.shared; top = f; below = fs }

-- one step, from s
pub data Step (g : Prog) (s : St) : St → Type 0 where
  sets : (x : ℕ) (e : E) → step_at g s.top ≡ some (set x e) → Step g s (with_all s (put (all s) x (value (all s) e)))
  opens : (x : ℕ) (b : Bool) → step_at g s.top ≡ some (open1 x) → Step g s (with_all s (put (all s) x b))
  goes : (e : E) (t : ℕ) → step_at g s.top ≡ some (go e t) → Step g s (pick (value (all s) e) (to s t) (to s (s.top.at + 1)))
  -- the caller waits at the place behind the call; the procedure called begins, its own variables no
  calls : (f : ℕ) (p : Proc) → step_at g s.top ≡ some (call f) → nth g.procs f ≡ some p →
      Step g s (record { shared = s.shared; top = record { proc = f; at = 0; vars = blank p.own }; below = next s.top ∷ s.below })
  -- a return, where one waits; with none waiting the run is over
  returns : (f : Frame) (fs : List Frame) → step_at g s.top ≡ some return → s.below ≡ f ∷ fs → Step g s (back_to s f fs)
  -- behind its last step a procedure returns too
  runs_out : (f : Frame) (fs : List Frame) → step_at g s.top ≡ none → s.below ≡ f ∷ fs → Step g s (back_to s f fs)

-- procedure 0 begins, with all variables no and none waiting
abbrev pub begin : Prog → St
begin g = record { shared = blank g.shared; top = record { proc = 0; at = 0; vars = own (nth g.procs 0) }; below = [] }
  where
    own : Option Proc → List Bool
    own none = []
    own (some p) = blank p.own

-- a run, of any number of steps, comes to this configuration
pub data Reached (g : Prog) : St → Type 0 where
  at_first : Reached g (begin g)
  by : {s t : St} → Reached g s → Step g s t → Reached g t

-- procedure f can be at place a with these shared and own variables, whoever waits below
abbrev pub Can : Prog → ℕ → ℕ → List Bool → List Bool → Type 0
Can g f a sh own = (s : St) × Reached g s × (s.top.proc ≡ f) × (s.top.at ≡ a) × (s.shared ≡ sh) × (s.top.vars ≡ own)

-- a run from s in which no step begins with fewer waiting than these, the oldest of those that wait
pub data Keeps (g : Prog) (fs : List Frame) (s : St) : St → Type 0 where
  stay : Keeps g fs s s
  more : {t u : St} (newer : List Frame) → Keeps g fs s t → t.below ≡ newer ++ fs → Step g t u → Keeps g fs s u

-- the same with these waiting further below
abbrev pub over : St → List Frame → St
over s fs = record { shared = s.shared; top = s.top; below = s.below ++ fs }
