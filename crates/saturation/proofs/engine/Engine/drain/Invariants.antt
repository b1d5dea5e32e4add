-- `drain`: each turn takes a mark away, and visits the node if it is one.
use Rattle.std.proofs.Common.{◌+◌, length}
use Rattle.saturation.specs.Engine.{remaining}
use Rattle.saturation.specs.Steps.{Drained}
use Rattle.saturation.proofs.engine.Engine.drain.Given as goal

abbrev pub invariant-loop-n : goal.invariant-loop-n
invariant-loop-n l = Drained l.initial.self l.self l.word

abbrev pub decreases-loop-n : goal.decreases-loop-n
decreases-loop-n l = remaining (length l.initial.self.marks.now.nodes + length l.initial.self.marks.now.words) l.self.sets.now l.self.marks.now
