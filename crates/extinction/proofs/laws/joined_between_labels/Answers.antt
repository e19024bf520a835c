use Rattle.extinction.proofs.BasinLaws.{joined-between}
use Rattle.extinction.proofs.laws.joined_between_labels.Goals as goal

pub returns : goal.returns
returns c n l s q k x y g b hx hy = joined-between n l s q g b k x y hx hy
