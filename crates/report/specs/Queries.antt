-- What is answered of a place.
use Rattle.std.specs.Prelude.{◌≡◌, ℕ, ◌+◌, ◌*◌, ◌^◌, ◌<◌, ◌≤◌, Bool, ◌⊎◌, ◌↔◌, List, ◌++◌, length, Ok, Err, vec_items, string_bytes, codes, Result, Vec, String}
use Rattle.std.proofs.Math.Option.{some}
use Rattle.std.specs.declared.alloc.Global.{Global}
use Rattle.program.specs.declared.programs.Header.{Header}
use Rattle.program.specs.Program.{nth, Proc, Prog}
use Rattle.program.specs.Runs.{Can}
use Rattle.program.specs.Rows.{Reads}
use Rattle.program.specs.Reading.{HeaderOf}
use Rattle.program.specs.Table.{num, before}
use Rattle.places.specs.Says.{Table}
use Rattle.syntax.specs.Decimal.{Lists}
use Rattle.report.specs.declared.complaints.Complaint.{Complaint}
use Rattle.report.specs.declared.queries.Query.{Query}
use Rattle.report.specs.declared.queries.Part.{Part}

-- procedure f of g, the bytes before it, and those of each of its places
pub record PartOf (g : Prog) (f : ℕ) (h : Part) : Type 0 where
  pub p : Proc
  pub there : nth g.procs f ≡ some p
  pub own : h.procedure.own ≡ p.own
  pub steps : h.procedure.steps ≡ length p.steps
  pub few : p.own ≤ 6
  pub base : h.base ≡ before g.shared g.procs f
  pub width : h.width ≡ 2 ^ (g.shared + p.own)

-- the same of the program that the bytes are
abbrev pub Parted : List ℕ → Header → ℕ → Part → Type 0
Parted s d f h = ((g : Prog) → Reads s g → HeaderOf g d → PartOf g f h) × (h.procedure.own ≤ 6) × (h.base ≤ 67108864) × (1 ≤ h.width) × (h.width ≤ 4096)

-- where the byte of a query stands, if its place and values are those of the procedure
abbrev pub Spotted : Part → Query → Result ℕ Complaint → Type 0
Spotted h q (Ok at) = (q.place ≤ h.procedure.steps) × (q.values < h.width) × (at ≡ h.base + (q.place * h.width + q.values))
Spotted h q (Err c) = Unit {0}

-- the table of the program that the bytes are
abbrev pub Decided : List ℕ → Result (Vec ℕ Global) Complaint → Type 0
Decided s (Ok t) = (g : Prog) × Reads s g × Table g (vec_items t)
Decided s (Err c) = Unit {0}

-- `yes` exactly if procedure f, which is p, can be at place a with the values v, and else `no`
pub record Tells (g : Prog) (f a v : ℕ) (told : List ℕ) : Type 0 where
  pub p : Proc
  pub there : nth g.procs f ≡ some p
  pub place : a ≤ length p.steps
  pub values : v < 2 ^ (g.shared + p.own)
  pub one : (told ≡ codes "yes\n") ⊎ (told ≡ codes "no\n")
  pub is : (sh own : List Bool) → length sh ≡ g.shared → length own ≡ p.own → num (sh ++ own) ≡ v → Can g f a sh own ↔ (told ≡ codes "yes\n")

-- an answer is given only of a text that lists the bytes of a program, and is right
abbrev pub Answered : List ℕ → Query → Result (String Global) Complaint → Type 0
Answered text q (Ok told) = (s : List ℕ) × (g : Prog) × Lists text s × Reads s g × Tells g q.procedure q.place q.values (string_bytes told)
Answered text q (Err c) = Unit {0}
