-- A program as a pushdown system on numbers: a node's number is its place in the table.
use Rattle.std.specs.Prelude.{◌≡◌, ℕ, ◌+◌, ◌*◌, ◌/◌, ◌%◌, ◌^◌, ◌<◌, ◌≤◌, Bool, true, false, ◌⊎◌, List, [], length}
use Rattle.std.proofs.Math.Option.{Option, some, none}
use Rattle.pushdown.specs.System.{Sys}
use Rattle.program.specs.Program.{pick, nth, put, I, set, open1, go, call, return, Proc, Prog, value}
use Rattle.program.specs.Table.{num, before}
use Rattle.program.specs.Values.{bits}

-- procedure f of g is p, a is one of its places, and these are values for its variables
pub record Fits (g : Prog) (f : ℕ) (p : Proc) (a : ℕ) (sh own : List Bool) : Type 0 where
  pub there : nth g.procs f ≡ some p
  pub place : a ≤ length p.steps
  pub shareds : length sh ≡ g.shared
  pub owns : length own ≡ p.own

-- the number of procedure f, which is p, at place a with all variables v, as a number too
abbrev pub loc : Prog → ℕ → Proc → ℕ → ℕ → ℕ
loc g f p a v = before g.shared g.procs f + (a * 2 ^ (g.shared + p.own) + v)

-- n is the number of procedure f at place a with v
pub record Loc (g : Prog) (n f : ℕ) (p : Proc) (a v : ℕ) : Type 0 where
  pub there : nth g.procs f ≡ some p
  pub place : a ≤ length p.steps
  pub small : v < 2 ^ (g.shared + p.own)
  pub is : n ≡ loc g f p a v

-- the moves of a node: on to one of two numbers; a call of the procedure that begins at a number,
-- while another waits, to which the shared values of the return will be added; a return
pub data Move : Type 0 where
  on : ℕ → ℕ → Move
  down : ℕ → ℕ → Move
  up : Move

-- the procedure that a number names, or one with nothing in it
abbrev pub proc_at : Prog → ℕ → Proc
proc_at g f = or_p (nth g.procs f)
  where
    or_p : Option Proc → Proc
    or_p none = record { own = 0; steps = [] }
    or_p (some p) = p

-- what a step does at procedure f, place a, with values v; behind the last step is a return
abbrev pub move_at : Prog → ℕ → Proc → ℕ → ℕ → Option I → Move
move_at g f p a v none = up
move_at g f p a v (some (set x e)) =
    let m = loc g f p (a + 1) (num (put (bits (g.shared + p.own) v) x (value (bits (g.shared + p.own) v) e))) in on m m
move_at g f p a v (some (open1 x)) =
    on (loc g f p (a + 1) (num (put (bits (g.shared + p.own) v) x true))) (loc g f p (a + 1) (num (put (bits (g.shared + p.own) v) x false)))
move_at g f p a v (some (go e t)) = let m = loc g f p (pick (value (bits (g.shared + p.own) v) e) t (a + 1)) v in on m m
move_at g f p a v (some (call d)) = down (loc g d (proc_at g d) 0 (v % 2 ^ g.shared)) (loc g f p (a + 1) (v / 2 ^ g.shared * 2 ^ g.shared))
move_at g f p a v (some return) = up

-- m is the moves of node n
pub record MoveOf (g : Prog) (n : ℕ) (m : Move) : Type 0 where
  pub f : ℕ
  pub p : Proc
  pub a : ℕ
  pub v : ℕ
  pub at : Loc g n f p a v
  pub is : m ≡ move_at g f p a v (nth p.steps a)

-- the numbered system: what a return carries are the shared values, the node's number modulo 2 ^ k
abbrev pub numbered : Prog → Sys ℕ ℕ ℕ
numbered g = record {
  flow = λ n m. (x : ℕ) × (y : ℕ) × MoveOf g n (on x y) × ((m ≡ x) ⊎ (m ≡ y));
  call = λ n m r. MoveOf g n (down m r);
  exit = λ n x. MoveOf g n up × (x ≡ n % 2 ^ g.shared);
  resume = λ r x. r + x;
}
