use Rattle.places.proofs.Work.{worked}
use Rattle.places.proofs.worked_example.Goals as goal

pub returns : goal.returns
returns c = worked
