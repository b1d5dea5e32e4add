-- `revisit_place`: the nodes of the place with one shared value, as far apart as there are shared values.
use Rattle.std.proofs.Common.{◌-◌}
use Rattle.saturation.specs.Steps.{Still}
use Rattle.saturation.proofs.Sites.{PlacePassed}
use Rattle.saturation.proofs.engine.Engine.revisit_place.Given as goal

abbrev pub invariant-loop-n : goal.invariant-loop-n
invariant-loop-n l = Still l.initial.self l.self × PlacePassed l.n-step l.initial.self.sets.now l.initial.self.marks.now l.self.marks.now l.fn.place.start l.x l.n

abbrev pub decreases-loop-n : goal.decreases-loop-n
decreases-loop-n l = l.n-end - l.n
