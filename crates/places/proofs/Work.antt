-- The worked example: its runs, step by step, and where their bytes stand.
use Rattle.std.proofs.Common.{true, refl, arith}
use Rattle.program.specs.Program.{var}
use Rattle.program.specs.Runs.{at_first, by, opens, goes, calls}
use Rattle.places.specs.Example.{ring, Worked}

pub worked : Worked
worked = record {
  reads = record { bytes = refl; long = omega arith; few = omega arith; some = omega arith; most = omega arith; procs = (record { few = omega arith; short = omega arith; steps = (omega arith, tt) }, (record { few = omega arith; short = omega arith; steps = (omega arith, ((omega arith, omega arith), (omega arith, ((omega arith, omega arith), tt)))) }, tt)) };
  enters = by at_first (calls 1 ring refl refl);
  goes = by (by (by at_first (calls 1 ring refl refl)) (opens 1 true refl)) (goes (var 1) 3 refl);
  long = refl;
  byte = refl;
}
