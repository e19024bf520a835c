-- What the fields of a tree stand for.
use Rattle.tree_laws.specs.Tree.{ParentTree}
use Rattle.partition_tree.specs.declared.tree.Tree.TheInside.{Inside}

abbrev pub tree_of_fields : Inside → ParentTree
tree_of_fields t = record { leaves = t.leaves; parents = t.parents.items; altitudes = t.altitudes.items; makers = t.makers.items }
