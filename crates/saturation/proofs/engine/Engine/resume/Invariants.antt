-- `resume`: the values that can be returned, one after the other.
use Rattle.std.proofs.Common.{ℕ, ◌<◌, Bool}
use Rattle.saturation.specs.Steps.{Kept}
use Rattle.saturation.specs.Visits.{Progress}
use Rattle.saturation.proofs.Closure.{ResumeClosed}
use Rattle.saturation.proofs.engine.Engine.resume.Given as goal

abbrev pub invariant-loop-y : goal.invariant-loop-y
invariant-loop-y l = record {
  kept : Kept l.initial.self l.self;
  new : Bool;
  progress : Progress l.initial.self.system.graph.now l.initial.self.system.shared l.initial.self.system.nodes l.initial.self.sets.now l.initial.self.marks.now l.self.sets.now l.self.marks.now new;
  closed : (j : ℕ) → j < l.y → ResumeClosed l.initial.self.system.graph.now l.initial.self.system.shared l.initial.self.system.nodes l.n j l.self.sets.now;
}
