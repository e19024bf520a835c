use Rattle.std.proofs.Common.{◌+◌, ◌-◌, ◌<◌, ◌≤◌, length}
use Rattle.node_region.specs.Tables.{start_of}
use Rattle.node_region.proofs.tables.Tables.search.Given as goal

abbrev pub invariant-loop-high : goal.invariant-loop-high
invariant-loop-high l =
    (l.low < l.high) × (l.high ≤ length l.self.firsts.items)
    × (l.self.first + start_of l.self.slots.items l.low ≤ l.id) × (l.id < l.self.first + start_of l.self.slots.items l.high)

abbrev pub decreases-loop-high : goal.decreases-loop-high
decreases-loop-high l = l.high - l.low
