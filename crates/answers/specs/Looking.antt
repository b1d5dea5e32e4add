-- Where runs come to, and with which values.
use Rattle.std.specs.Prelude.{◌≡◌, ℕ, ◌+◌, ◌<◌, ◌≤◌, Bool, true, false, ◌↔◌, List, ◌++◌, length, Ok, Err, vec_items, Result, Vec, bit_and, slice_index_or}
use Rattle.std.proofs.Math.Option.{some}
use Rattle.std.specs.declared.alloc.Global.{Global}
use Rattle.program.specs.Program.{nth, Proc, Prog}
use Rattle.program.specs.Runs.{Can}
use Rattle.program.specs.Table.{num}
use Rattle.report.specs.declared.complaints.Complaint.{Complaint}
use Rattle.answers.specs.declared.deciding.Decided.{Decided}
use Rattle.answers.specs.declared.matches.Matches.{Matches}
use Rattle.answers.specs.declared.reached.Question.{Question}
use Rattle.answers.specs.Deciding.{Holds}

-- some run comes to place a of procedure f with values of which P holds
abbrev pub Comes : Prog → ℕ → ℕ → (ℕ → Type 0) → Type 0
Comes g f a P = (sh : List Bool) × (own : List Bool) × Can g f a sh own × P (num (sh ++ own))

-- a flag for each place of procedure f: whether some run comes there
pub record Flags (g : Prog) (f : ℕ) (flags : List Bool) : Type 0 where
  pub p : Proc
  pub there : nth g.procs f ≡ some p
  pub long : length flags ≡ length p.steps + 1
  pub tell : (a : ℕ) → a ≤ length p.steps → (slice_index_or flags a false ≡ true) ↔ Comes g f a (λ v. Unit {0})

abbrev pub Flagged : Decided → ℕ → Result (Vec Bool Global) Complaint → Type 0
Flagged d f (Ok v) = (g : Prog) → Holds g d → Flags g f (vec_items v)
Flagged d f (Err c) = Unit {0}

-- the place asked about is there, and some values are found exactly if some run comes there with values that fit
pub record Answers (g : Prog) (q : Question) (count : ℕ) : Type 0 where
  pub p : Proc
  pub there : nth g.procs q.procedure ≡ some p
  pub place : q.place ≤ length p.steps
  pub tell : (0 < count) ↔ Comes g q.procedure q.place (λ v. bit_and v q.pattern.mask ≡ q.pattern.want)

abbrev pub Found : Decided → Question → Result Matches Complaint → Type 0
Found d q (Ok m) = (g : Prog) → Holds g d → Answers g q m.count
Found d q (Err c) = Unit {0}
