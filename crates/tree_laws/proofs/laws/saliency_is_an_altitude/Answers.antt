use Rattle.tree_laws.proofs.Meeting.{saliency-lowest}
use Rattle.tree_laws.proofs.laws.saliency_is_an_altitude.Goals as goal

pub returns : goal.returns
returns c = saliency-lowest
