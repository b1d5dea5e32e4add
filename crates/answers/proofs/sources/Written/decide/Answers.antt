-- `decide`: the bytes are the program that the tree means.
use Rattle.std.proofs.Common.{ℕ, List, Ok, Err, Result}
use Rattle.program.specs.Rows.{Reads}
use Rattle.tree.specs.declared.programs.Tree.{Tree}
use Rattle.tree.specs.Meaning.{meaning}
use Rattle.report.specs.declared.complaints.Complaint.{Complaint}
use Rattle.answers.specs.declared.deciding.Decided.{Decided}
use Rattle.answers.specs.Deciding.{DecidedOf}
use Rattle.answers.specs.Sources.{DecidedTree}
use Rattle.answers.proofs.sources.Written.decide.Goals as goal

decided_tree : (t : Tree) (s : List ℕ) (r : Result Decided Complaint) → Reads s (meaning t) → DecidedOf s r → DecidedTree t r
decided_tree t s (Ok d) q h = h (meaning t) q
decided_tree t s (Err c) q h = tt

pub returns : goal.returns
returns c = decided_tree c.args.self.source.now.tree _ c.new.result c.in_ok-bytes.ensures c.new.ensures
