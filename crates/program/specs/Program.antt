-- Boolean programs with procedures, and the states in which they can be.
-- Variables are yes (true) or no (false). The variables that all procedures share are counted
-- first, then those of the procedure at work.
use Rattle.std.specs.Prelude.{ℕ, zero, suc, Bool, true, false, not, ◌&&◌, List, [], ◌∷◌, ◌++◌}
use Rattle.std.proofs.Math.Option.{Option, some, none}

-- the first of two where the test is true, else the second
abbrev pub pick : {A : Type 0} → Bool → A → A → A
pick true a b = a
pick false a b = b

-- what stands at place n of a list, if anything does
abbrev pub nth : {A : Type 0} → List A → ℕ → Option A
nth [] n = none
nth (x ∷ xs) zero = some x
nth (x ∷ xs) (suc n) = nth xs n

-- the list with v at place n; past its end it stays as it is
abbrev pub put : {A : Type 0} → List A → ℕ → A → List A
put [] n v = []
put (x ∷ xs) zero v = v ∷ xs
put (x ∷ xs) (suc n) v = x ∷ put xs n v

-- a value that may be missing, and is no then
abbrev pub or_f : Option Bool → Bool
or_f none = false
or_f (some b) = b

-- n variables, each of them no
abbrev pub blank : ℕ → List Bool
blank zero = []
blank (suc n) = false ∷ blank n

-- expressions: yes; a variable, by its number; not; and
pub data E : Type 0 where
  yes : E
  var : ℕ → E
  not1 : E → E
  and1 : E → E → E

-- steps: set a variable to an expression; open a variable, which then is yes or no, either may be;
-- go to a place if an expression holds, else on to the next; call a procedure; return
pub data I : Type 0 where
  set : ℕ → E → I
  open1 : ℕ → I
  go : E → ℕ → I
  call : ℕ → I
  return : I

-- a procedure: how many variables it has of its own, and its steps, at places from 0
pub record Proc : Type 0 where
  pub own : ℕ
  pub steps : List I

-- a program: how many variables its procedures share, and the procedures, of which 0 begins
pub record Prog : Type 0 where
  pub shared : ℕ
  pub procs : List Proc

-- a procedure that has begun: which one, at which place, and its own variables
pub record Frame : Type 0 where
  pub proc : ℕ
  pub at : ℕ
  pub vars : List Bool

-- a configuration: the shared variables, the procedure at work, and those that wait for a return,
-- the newest first
pub record St : Type 0 where
  pub shared : List Bool
  pub top : Frame
  pub below : List Frame

-- the value of an expression; a variable that is not there is no
abbrev pub value : List Bool → E → Bool
value vs yes = true
value vs (var x) = or_f (nth vs x)
value vs (not1 e) = not (value vs e)
value vs (and1 e f) = value vs e && value vs f

-- the variables that the procedure at work sees: the shared ones, then its own
abbrev pub all : St → List Bool
all s = s.shared ++ s.top.vars
