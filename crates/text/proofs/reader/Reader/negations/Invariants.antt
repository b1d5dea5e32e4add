use Rattle.std.proofs.Common.{length}
use Rattle.text.specs.Cursor.{GoesOn}
use Rattle.text.proofs.reader.Reader.negations.Given as goal

abbrev pub invariant-loop-count : goal.invariant-loop-count
invariant-loop-count l = GoesOn l.initial.self.cursor l.self.cursor

abbrev pub decreases-loop-count : goal.decreases-loop-count
decreases-loop-count l = length l.self.cursor.rest.now
