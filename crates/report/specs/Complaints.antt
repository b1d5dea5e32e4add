-- What a complaint says.
use Rattle.std.specs.Prelude.{◌≡◌, ℕ, List, string_bytes}
use Rattle.report.specs.declared.complaints.Complaint.{Complaint}
use Rattle.report.specs.declared.complaints.Complaint.TheVariants.{Sentence, Memory}

-- this text, unless memory is short
abbrev pub Said : Complaint → List ℕ → Type 0
Said (Sentence m) text = string_bytes m ≡ text
Said Memory text = Unit {0}
