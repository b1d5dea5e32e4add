use Rattle.expansion.specs.Nodes.{PlaceDone}
use Rattle.expansion.proofs.places.expand_place.Given as goal

abbrev pub invariant-loop-values : goal.invariant-loop-values
invariant-loop-values l = PlaceDone l.body.source l.step l.place l.body.callers l.initial.words l.words l.values
