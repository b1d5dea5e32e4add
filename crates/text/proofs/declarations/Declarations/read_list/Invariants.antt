use Rattle.std.proofs.Common.{length}
use Rattle.text.specs.Cursor.{GoesOn}
use Rattle.text.proofs.declarations.Declarations.read_list.Given as goal

abbrev pub invariant-loop-token : goal.invariant-loop-token
invariant-loop-token l = GoesOn l.initial.self.cursor l.self.cursor

abbrev pub decreases-loop-token : goal.decreases-loop-token
decreases-loop-token l = length l.self.cursor.rest.now
