use Rattle.std.proofs.Common.{◌≡◌, map}
use Rattle.tree_laws.specs.Tree.{altitude}
use Rattle.tree_laws.specs.Zones.{keeps}
use Rattle.hg_base.proofs.Passing.{passing}
use Rattle.quasi_flat_zones.proofs.lists.altitudes.Given as goal

-- the kept nodes so far have their altitudes
abbrev pub invariant-loop-i : goal.invariant-loop-i
invariant-loop-i l = l.altitudes.items ≡ map (altitude l.tree) (passing (keeps l.tree) l.i)
