-- `saturate`: the entry alone is set and marked, and the rest follows from it.
use Rattle.std.proofs.Common.{refl, arith}
use Rattle.saturation.proofs.Draining.{begun_first}
use Rattle.saturation.proofs.saturate.Goals as goal

pub sweep-requires : goal.sweep-requires
sweep-requires c = begun_first c.requires.ready.fine c.requires.starts (λ i h. c.fill.ensures.clones i 0 (omega arith) refl) c.new-marks.ensures c.insert.ensures
