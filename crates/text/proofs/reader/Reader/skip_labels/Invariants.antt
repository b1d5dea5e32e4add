use Rattle.std.proofs.Common.{length}
use Rattle.text.proofs.reader.Reader.skip_labels.Given as goal

abbrev pub decreases-loop-self : goal.decreases-loop-self
decreases-loop-self l = length l.self.cursor.rest.now
