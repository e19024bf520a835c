use Rattle.tree_tests.proofs.LeaflessForest.{leafless-tree}
use Rattle.tree_tests.proofs.energy_cut_tests.without_leaves.Goals as goal

pub from_lists-requires : goal.from_lists-requires
from_lists-requires g c = rw (c.in_ok-parents.ensures.items, c.in_ok-altitudes.ensures.items, c.in_ok-makers.ensures.items) leafless-tree
