-- The order in which the edges of a list are given to a part.
use Rattle.std.specs.Prelude.{List, length, map, IsPermutation}
use Rattle.std.specs.List.{range_with_len}
use Rattle.partition_tree.specs.declared.list.Ranked.{Ranked}
use Rattle.partition_tree.specs.declared.block_keys.BlockKey.{BlockKey}

-- each rank of the list has one key
abbrev pub AreBlockKeys : List Ranked → List BlockKey → Type 0
AreBlockKeys list block_keys = IsPermutation (range_with_len 0 (length list)) (map (λ (t : BlockKey). t.rank) block_keys)
