use Rattle.std.proofs.Common.{length}
use Rattle.text.proofs.declarations.Declarations.read.Given as goal

abbrev pub decreases-loop-self : goal.decreases-loop-self
decreases-loop-self l = length l.self.cursor.rest.now
