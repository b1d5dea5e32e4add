-- What is told of the program that a syntax tree means.
use Rattle.std.specs.Prelude.{ℕ, Ok, Err, vec_items, string_bytes, Result, Vec, String}
use Rattle.std.specs.declared.alloc.Global.{Global}
use Rattle.program.specs.Rows.{Reads}
use Rattle.tree.specs.declared.programs.Tree.{Tree}
use Rattle.tree.specs.Meaning.{meaning}
use Rattle.report.specs.declared.complaints.Complaint.{Complaint}
use Rattle.answers.specs.declared.deciding.Decided.{Decided}
use Rattle.answers.specs.declared.reached.Question.{Question}
use Rattle.answers.specs.Deciding.{Holds}
use Rattle.answers.specs.Replies.{Says}

abbrev pub EncodedTree : Tree → Result (Vec ℕ Global) Complaint → Type 0
EncodedTree t (Ok bytes) = Reads (vec_items bytes) (meaning t)
EncodedTree t (Err c) = Unit {0}

abbrev pub DecidedTree : Tree → Result Decided Complaint → Type 0
DecidedTree t (Ok d) = Holds (meaning t) d
DecidedTree t (Err c) = Unit {0}

-- `yes` exactly if some run of the program that the tree means comes to the place with values that fit, and else `no`
abbrev pub AnsweredTree : Tree → Question → Result (String Global) Complaint → Type 0
AnsweredTree t q (Ok text) = Says (meaning t) q (string_bytes text)
AnsweredTree t q (Err c) = Unit {0}
