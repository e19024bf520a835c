use Rattle.tree_tests.proofs.SmallForest.{small-forest}
use Rattle.tree_tests.proofs.partition_tree_tests.lists.Goals as goal

pub from_lists-requires : goal.from_lists-requires
from_lists-requires g c = rw (c.in_ok-parents.ensures.items, c.in_ok-altitudes.ensures.items, c.in_ok-makers.ensures.items) small-forest
