use Rattle.std.proofs.Common.{◌≡◌, map}
use Rattle.std.specs.Prelude.{filter, nat_le}
use Rattle.tree_laws.specs.Zones.{keeps, maker}
use Rattle.hg_base.proofs.Passing.{passing}
use Rattle.quasi_flat_zones.proofs.lists.makers.Given as goal

-- the kept inner nodes so far have their makers
abbrev pub invariant-loop-i : goal.invariant-loop-i
invariant-loop-i l = l.makers.items ≡ map (maker l.tree) (filter (nat_le l.tree.leaves) (passing (keeps l.tree) l.i))
