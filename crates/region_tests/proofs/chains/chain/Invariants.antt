use Rattle.std.proofs.Common.{◌-◌, ◌^◌}
use Rattle.std.specs.Prelude.{IfSome}
use Rattle.std.specs.Option.{option_map_or}
use Rattle.node_region.specs.Pool.{IsUsed}
use Rattle.border_climb.specs.Splicing.{rank_of}
use Rattle.region_tests.proofs.chains.chain.Given as goal

abbrev pub invariant-loop-next : goal.invariant-loop-next
invariant-loop-next l = IfSome l.next (IsUsed l.part.region)

abbrev pub decreases-loop-next : goal.decreases-loop-next
decreases-loop-next l = option_map_or (λ c. 2 ^ 32 - rank_of l.part.region c) l.next 0
