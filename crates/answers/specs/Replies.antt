-- What a reply says.
use Rattle.std.specs.Prelude.{◌≡◌, ℕ, ◌≤◌, ◌⊎◌, ◌↔◌, List, ◌++◌, length, Ok, Err, string_bytes, codes, Result, String, bit_and}
use Rattle.std.proofs.Math.Option.{some}
use Rattle.std.specs.declared.alloc.Global.{Global}
use Rattle.program.specs.Program.{nth, Proc, Prog}
use Rattle.report.specs.declared.complaints.Complaint.{Complaint}
use Rattle.answers.specs.declared.deciding.Decided.{Decided}
use Rattle.answers.specs.declared.reached.Question.{Question}
use Rattle.answers.specs.Deciding.{Holds}
use Rattle.answers.specs.Looking.{Comes}

-- a text that begins with this one
abbrev pub Begins : List ℕ → List ℕ → Type 0
Begins text word = (rest : List ℕ) × (text ≡ word ++ rest)

-- the place asked about is there; the text begins with yes or with no, and with yes exactly if some run comes there
-- with values that fit
pub record Says (g : Prog) (q : Question) (text : List ℕ) : Type 0 where
  pub p : Proc
  pub there : nth g.procs q.procedure ≡ some p
  pub place : q.place ≤ length p.steps
  pub one : Begins text (codes "yes\n") ⊎ Begins text (codes "no\n")
  pub tell : Begins text (codes "yes\n") ↔ Comes g q.procedure q.place (λ v. bit_and v q.pattern.mask ≡ q.pattern.want)

abbrev pub Replied : Decided → Question → Result (String Global) Complaint → Type 0
Replied d q (Ok text) = (g : Prog) → Holds g d → Says g q (string_bytes text)
Replied d q (Err c) = Unit {0}
