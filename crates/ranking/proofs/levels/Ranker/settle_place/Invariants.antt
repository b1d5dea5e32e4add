-- `settle_place`: node after node, as far apart as there are shared values.
use Rattle.std.proofs.Common.{get_or}
use Rattle.saturation.specs.System.{site_begin}
use Rattle.ranking.proofs.Passing.{PlacePassed}
use Rattle.ranking.proofs.levels.Ranker.settle_place.Given as goal

abbrev pub invariant-loop-n : goal.invariant-loop-n
invariant-loop-n l = PlacePassed l.fn.self l.self (get_or l.fn.self.procedures.bases.now l.fn.begun.procedure 0) (site_begin l.fn.self.system.sites.now l.fn.site) l.fn.begun.value l.n
