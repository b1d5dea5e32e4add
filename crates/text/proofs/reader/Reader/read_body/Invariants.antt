use Rattle.std.proofs.Common.{◌≡◌, ◌-◌, ◌≤◌, vec_len}
use Rattle.text.proofs.reader.Reader.read_body.Given as goal

abbrev pub invariant-loop-lines : goal.invariant-loop-lines
invariant-loop-lines l = (vec_len l.lines ≡ vec_len l.statements) × (vec_len l.statements ≤ 255)

-- each round adds a statement
abbrev pub decreases-loop-lines : goal.decreases-loop-lines
decreases-loop-lines l = 256 - vec_len l.statements
