-- The limits of programs, but for their length in bytes.
use Rattle.std.specs.Prelude.{◌≤◌, length, Result, MatchResult}
use Rattle.program.specs.Program.{I, Prog}
use Rattle.program.specs.Rows.{OkI, OkP, Every}
use Rattle.tree.specs.declared.faults.Fault.{Fault}
use Rattle.tree.specs.declared.limits.Scope.{Scope}

-- an answer tells whether this is so: it is, or there is a fault and it is not
abbrev pub Tells : Type 0 → Result (Unit {0}) Fault → Type 0
Tells P r = MatchResult r (λ _. P) (λ _. P → ⊥)

-- a step within its scope
abbrev pub InScope : Scope → I → Type 0
InScope s = OkI s.vars s.statements s.procedures

-- each number is within its limit, and each name is there
pub record Kept (g : Prog) : Type 0 where
  pub few : g.shared ≤ 6
  pub some : 1 ≤ length g.procs
  pub most : length g.procs ≤ 64
  pub procs : Every (OkP g.shared (length g.procs)) g.procs
