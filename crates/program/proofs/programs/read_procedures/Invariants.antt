use Rattle.std.proofs.Common.{ℕ, ◌-◌, ◌*◌, ◌≤◌, List, length, Result}
use Rattle.program.specs.declared.refusals.Refusal.{Refusal}
use Rattle.program.specs.declared.programs.Tally.{Tally}
use Rattle.program.specs.Reading.{ReadProcs}
use Rattle.program.proofs.programs.read_procedures.Given as goal

-- what the rest answers, the whole answers; and the table is small
pub record Inv (k m : ℕ) (s : List ℕ) (at : ℕ) (b : Tally) : Type 0 where
  pub some : at ≤ length s
  pub few : b.count ≤ 64
  pub small : b.table ≤ b.count * 1048576
  pub rest : (r : Result Tally Refusal) → ReadProcs k m s at (64 - b.count) b r → ReadProcs k m s 1 64 (record { count = 0; table = 0 }) r

abbrev pub invariant-loop-end : goal.invariant-loop-end
invariant-loop-end l = Inv l.shared l.procs l.bytes l.end l.tally

abbrev pub decreases-loop-end : goal.decreases-loop-end
decreases-loop-end l = length l.bytes - l.end
