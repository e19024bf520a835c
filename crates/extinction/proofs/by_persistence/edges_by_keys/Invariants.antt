use Rattle.std.proofs.Common.{◌≡◌, map, get_or, All}
use Rattle.std.specs.List.{range_with_len}
use Rattle.partition_tree.specs.Ranked.{IsRankedEdge}
use Rattle.extinction.specs.PersistenceOrder.{ranked_of}
use Rattle.extinction.proofs.by_persistence.edges_by_keys.Given as goal

-- the edges of the keys so far
abbrev pub invariant-loop-k : goal.invariant-loop-k
invariant-loop-k l = record {
  so_far : l.list.items ≡ map (λ j. ranked_of l.graph l.persistences (get_or l.keys j (0, 0)).1) (range_with_len 0 l.k);
  ends : All (IsRankedEdge l.graph.n) l.list.items;
}
