use Rattle.std.proofs.Common.{◌≡◌}
use Rattle.node_region.specs.Pool.{count}
use Rattle.border_climb.specs.Stands.{Stands}
use Rattle.partition_tree.specs.BlockKeys.{AreBlockKeys}
use Rattle.partition_tree.proofs.RankByRank.{ranks_of, given_by}
use Rattle.partition_tree.proofs.list.part_of.Given as goal

-- the part stands for the edges so far
abbrev pub invariant-loop-key : goal.invariant-loop-key
invariant-loop-key l = record {
  first : l.part.region.first ≡ 0;
  count : count l.part.region ≡ l.n;
  block_keys : AreBlockKeys l.list l.key-items;
  stands : Stands l.part (given_by l.list (ranks_of l.key-items) l.key-index);
}
