use Rattle.pushdown.specs.Listed.{sys}
use Rattle.pushdown.proofs.Listing.{laws}
use Rattle.pushdown.proofs.laws.Goals as goal

pub returns : goal.returns
returns c = λ M. laws (sys M)
