-- The arguments of a program.
use Rattle.std.specs.Prelude.{◌≡◌, ℕ, ◌⊎◌, List, ◌∷◌, length, Ok, Err, string_bytes, Result, String, ◌≢◌}
use Rattle.std.specs.Borrow.{Bor}
use Rattle.std.specs.declared.alloc.Global.{Global}
use Rattle.report.specs.declared.complaints.Complaint.{Complaint}

-- the program's own name and one file are taken, with three words of a query or none, and nothing else
abbrev pub OneFile : List (String Global) → Result (Bor (List ℕ)) Complaint → Type 0
OneFile args (Ok name) = (own : String Global) × (file : String Global) × (query : List (String Global)) × (args ≡ own ∷ file ∷ query) × (name.now ≡ string_bytes file) × ((length query ≡ 0) ⊎ (length query ≡ 3))
OneFile args (Err e) = (length args ≢ 2) × (length args ≢ 5)
