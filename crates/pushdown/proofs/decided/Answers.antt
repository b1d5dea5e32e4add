use Rattle.pushdown.proofs.Listing.{decided}
use Rattle.pushdown.proofs.decided.Goals as goal

pub returns : goal.returns
returns c = λ M. decided M
