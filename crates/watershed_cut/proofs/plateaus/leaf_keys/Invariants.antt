use Rattle.watershed_cut.specs.Plateaus.{ArePlateauKeys}
use Rattle.watershed_cut.proofs.plateaus.leaf_keys.Given as goal

-- the leaves so far have their keys
abbrev pub invariant-loop-x : goal.invariant-loop-x
invariant-loop-x l = ArePlateauKeys l.tree l.x l.keys.items
