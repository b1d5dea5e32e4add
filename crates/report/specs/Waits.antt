-- What is told of how many calls can wait.
use Rattle.std.specs.Prelude.{◌≡◌, ℕ, List, Ok, Err, Result}
use Rattle.program.specs.Program.{Prog}
use Rattle.program.specs.Rows.{Reads}
use Rattle.places.specs.Says.{Bounded, Unbounded}
use Rattle.report.specs.declared.complaints.Complaint.{Complaint}
use Rattle.report.specs.declared.complaints.Complaint.TheVariants.{Memory}
use Rattle.report.specs.declared.waiting.Waiting.{Waiting}
use Rattle.report.specs.declared.waiting.Waiting.TheVariants.{AtMost, Endless, TooLarge}

-- the greatest number of calls that wait in runs of the program that the bytes are, or that there is none;
-- nothing of a program that is too large, and a refusal only where memory is short
abbrev pub Waits : List ℕ → Result Waiting Complaint → Type 0
Waits s (Ok (AtMost d)) = (g : Prog) × Reads s g × Bounded g d
Waits s (Ok Endless) = (g : Prog) × Reads s g × Unbounded g
Waits s (Ok (TooLarge n)) = Unit {0}
Waits s (Err c) = c ≡ Memory
