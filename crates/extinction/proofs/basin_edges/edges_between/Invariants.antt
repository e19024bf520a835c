use Rattle.std.proofs.Common.{◌≡◌, ◌≤◌, length, All}
use Rattle.partition_tree.specs.Ranked.{IsRankedEdge}
use Rattle.extinction.specs.Basins.{basin_edges}
use Rattle.extinction.proofs.basin_edges.edges_between.Given as goal

-- the edges so far
abbrev pub invariant-loop-place : goal.invariant-loop-place
invariant-loop-place l = record {
  so_far : l.list.items ≡ basin_edges l.graph l.labels l.persistences l.place;
  ends : All (IsRankedEdge l.labels.count) l.list.items;
  few : length l.list.items ≤ l.place;
}
