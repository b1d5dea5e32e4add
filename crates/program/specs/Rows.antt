-- Programs as bytes, and which programs are within the limits.
use Rattle.std.specs.Prelude.{◌≡◌, ℕ, ◌+◌, ◌<◌, ◌≤◌, List, [], ◌∷◌, ◌++◌, length}
use Rattle.program.specs.Program.{E, yes, var, not1, and1, I, set, open1, go, call, return, Proc, Prog}

-- the bytes of an expression: in prefix order
abbrev pub row_e : E → List ℕ
row_e yes = 0 ∷ []
row_e (var x) = 1 ∷ x ∷ []
row_e (not1 e) = 2 ∷ row_e e
row_e (and1 e f) = 3 ∷ (row_e e ++ row_e f)

-- the bytes of a step
abbrev pub row_i : I → List ℕ
row_i (set x e) = 0 ∷ x ∷ row_e e
row_i (open1 x) = 1 ∷ x ∷ []
row_i (go e t) = 2 ∷ t ∷ row_e e
row_i (call f) = 3 ∷ f ∷ []
row_i return = 4 ∷ []

-- the bytes of several, one after another
abbrev pub rows : {A : Type 0} → (A → List ℕ) → List A → List ℕ
rows row [] = []
rows row (x ∷ xs) = row x ++ rows row xs

-- the bytes of a procedure: its own variables, its steps, and these
abbrev pub row_p : Proc → List ℕ
row_p p = p.own ∷ length p.steps ∷ rows row_i p.steps

-- each of a list is so
abbrev pub Every : {A : Type 0} → (A → Type 0) → List A → Type 0
Every P [] = Unit {0}
Every P (x ∷ xs) = P x × Every P xs

-- an expression over n variables
abbrev pub OkE : ℕ → E → Type 0
OkE n yes = Unit {0}
OkE n (var x) = x < n
OkE n (not1 e) = OkE n e
OkE n (and1 e f) = OkE n e × OkE n f

-- a step over n variables, in a procedure of k steps, in a program of m procedures; the place
-- behind the last step may be gone to
abbrev pub OkI : ℕ → ℕ → ℕ → I → Type 0
OkI n k m (set x e) = (x < n) × OkE n e
OkI n k m (open1 x) = x < n
OkI n k m (go e t) = (t ≤ k) × OkE n e
OkI n k m (call f) = f < m
OkI n k m return = Unit {0}

-- a procedure of a program with k shared variables and m procedures
pub record OkP (k m : ℕ) (p : Proc) : Type 0 where
  pub few : p.own ≤ 6
  pub short : length p.steps ≤ 255
  pub steps : Every (OkI (k + p.own) (length p.steps) m) p.steps

-- these bytes are the program g, and it is within the limits
pub record Reads (s : List ℕ) (g : Prog) : Type 0 where
  pub bytes : g.shared ∷ rows row_p g.procs ≡ s
  pub long : length s ≤ 8192
  pub few : g.shared ≤ 6
  pub some : 1 ≤ length g.procs
  pub most : length g.procs ≤ 64
  pub procs : Every (OkP g.shared (length g.procs)) g.procs

-- bytes are the writing of at most one program
abbrev pub OneProgram : Type 0
OneProgram = (s : List ℕ) (g h : Prog) → Reads s g → Reads s h → g ≡ h
