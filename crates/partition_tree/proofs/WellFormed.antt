-- What a well-formed tree is in the words of the base crate.
use Rattle.std.proofs.Common.{◌≡◌, ◌+◌, ◌≤◌, arith, length}
use Rattle.tree_laws.specs.Tree.{ParentTree}
use Rattle.tree_laws.specs.Levels.{IsClimbing}
use Rattle.partition_tree.specs.TreeLists.{IsWellFormed}

-- no link of a well-formed tree leads down
pub well_formed-climbs : (t : ParentTree) → IsWellFormed t → IsClimbing t
well_formed-climbs t f = record { rises = f.rises; within = f.within }

-- a well-formed tree has no more leaves than nodes
pub well_formed-leaves : (t : ParentTree) → IsWellFormed t → t.leaves ≤ length t.parents
well_formed-leaves t f = let e : t.leaves + length t.makers ≡ length t.parents = f.one_maker_each in omega arith
