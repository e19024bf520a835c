use Rattle.std.proofs.Common.{◌≡◌, map}
use Rattle.tree_laws.specs.Zones.{keeps, zone_number, next_kept}
use Rattle.hg_base.proofs.Passing.{passing}
use Rattle.quasi_flat_zones.proofs.lists.parents.Given as goal

-- the kept nodes so far have their parents
abbrev pub invariant-loop-i : goal.invariant-loop-i
invariant-loop-i l = l.parents.items ≡ map (λ i. zone_number l.tree (next_kept l.tree i)) (passing (keeps l.tree) l.i)
