use Rattle.saliency.specs.Tops.{AreFirstKeys}
use Rattle.saliency.proofs.regions.leaf_keys.Given as goal

-- the leaves so far have their keys
abbrev pub invariant-loop-x : goal.invariant-loop-x
invariant-loop-x l = AreFirstKeys l.x l.tops l.keys.items
