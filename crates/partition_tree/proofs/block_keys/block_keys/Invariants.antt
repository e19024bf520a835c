use Rattle.std.proofs.Common.{◌≡◌}
use Rattle.std.specs.List.{range_with_len}
use Rattle.partition_tree.proofs.RankByRank.{ranks_of}
use Rattle.partition_tree.proofs.block_keys.block_keys.Given as goal

-- a key for each edge so far
abbrev pub invariant-loop-rank : goal.invariant-loop-rank
invariant-loop-rank l = ranks_of l.block_keys.items ≡ range_with_len 0 l.rank
