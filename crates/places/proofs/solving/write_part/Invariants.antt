use Rattle.places.specs.Solving.{Written}
use Rattle.places.proofs.solving.write_part.Given as goal

abbrev pub invariant-loop-i : goal.invariant-loop-i
invariant-loop-i l = Written l.sets l.base l.part l.i
