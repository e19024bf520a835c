use Rattle.tree_laws.proofs.FrontOnce.{front-tree}
use Rattle.tree_laws.proofs.Meeting.{altitude-leaf, altitude-inner}
use Rattle.tree_laws.proofs.laws.tree_is_a_front_tree.Goals as goal

pub returns-clause-nodes : goal.returns-clause-nodes
returns-clause-nodes c = front-tree

pub returns-clause-leaf_altitudes : goal.returns-clause-leaf_altitudes
returns-clause-leaf_altitudes c = λ n x s lt. altitude-leaf n s x lt

pub returns-clause-inner_altitudes : goal.returns-clause-inner_altitudes
returns-clause-inner_altitudes c = λ n s e h i. altitude-inner n s h e i
