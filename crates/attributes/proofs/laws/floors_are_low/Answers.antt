use Rattle.attributes.proofs.LowFloors.{floors-low}
use Rattle.attributes.proofs.laws.floors_are_low.Goals as goal

pub returns : goal.returns
returns c = λ g i x graph. floors-low g graph i x
