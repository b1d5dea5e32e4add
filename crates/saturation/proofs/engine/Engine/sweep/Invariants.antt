-- `sweep`: all bits are true, and each node is closed or marked.
use Rattle.std.proofs.Common.{◌+◌, ◌≤◌, length}
use Rattle.saturation.specs.Marks.{SameSize}
use Rattle.saturation.specs.Engine.{remaining, Begun}
use Rattle.saturation.specs.Steps.{Kept}
use Rattle.saturation.proofs.engine.Engine.sweep.Given as goal

abbrev pub invariant-loop-word : goal.invariant-loop-word
invariant-loop-word l = Kept l.initial.self l.self × SameSize l.initial.self.marks.now l.self.marks.now × (l.at ≤ length l.self.marks.now.words) × Begun l.initial.self.system l.root l.self.sets.now l.self.marks.now

abbrev pub decreases-loop-word : goal.decreases-loop-word
decreases-loop-word l = remaining (length l.initial.self.marks.now.nodes + length l.initial.self.marks.now.words) l.self.sets.now l.self.marks.now
