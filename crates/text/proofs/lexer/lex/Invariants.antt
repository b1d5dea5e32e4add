use Rattle.std.proofs.Common.{◌+◌, ◌-◌, ◌≤◌, length, vec_len}
use Rattle.text.proofs.lexer.lex.Given as goal

-- a line begins behind a byte, and so does each token but the last
abbrev pub invariant-loop-first : goal.invariant-loop-first
invariant-loop-first l =
    (l.at ≤ length l.text) × (l.line ≤ l.at + 1) × (l.line_start ≤ l.at) × (vec_len l.tokens ≤ l.at)

abbrev pub decreases-loop-first : goal.decreases-loop-first
decreases-loop-first l = length l.initial.text - l.at
