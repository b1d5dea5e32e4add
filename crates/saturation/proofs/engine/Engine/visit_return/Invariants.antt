-- `visit_return`: the entries that can be inside, one after the other.
use Rattle.std.proofs.Common.{ℕ, ◌<◌, Bool}
use Rattle.saturation.specs.Steps.{Kept}
use Rattle.saturation.specs.Visits.{Progress}
use Rattle.saturation.proofs.Closure.{ReturnClosed}
use Rattle.saturation.proofs.engine.Engine.visit_return.Given as goal

abbrev pub invariant-loop-x : goal.invariant-loop-x
invariant-loop-x l = record {
  kept : Kept l.initial.self l.self;
  new : Bool;
  progress : Progress l.initial.self.system.graph.now l.initial.self.system.shared l.initial.self.system.nodes l.initial.self.sets.now l.initial.self.marks.now l.self.sets.now l.self.marks.now new;
  closed : (j : ℕ) → j < l.x → ReturnClosed l.initial.self.system.graph.now l.initial.self.system.shared l.initial.self.system.nodes l.n j l.self.sets.now;
}
