use Rattle.std.proofs.Common.{◌≡◌, List, ℕ, ◌∙◌, ap, subst, arith, length}
use Rattle.std.specs.Prelude.{IsPermutation}
use Rattle.std.specs.List.{range_with_len}
use Rattle.std.proofs.lemmas.List.Sorted.{IsPermutation-map}
use Rattle.partition_tree.specs.declared.block_keys.BlockKey.{BlockKey}
use Rattle.partition_tree.proofs.RankByRank.{ranks_of, block_keys-more}
use Rattle.partition_tree.proofs.block_keys.block_keys.Goals as goal

pub loop-rank-preserved : goal.loop-rank-preserved
loop-rank-preserved c = block_keys-more c.loop-rank.block_keys.items c.push.new.self.items c.block_key.result c.loop-rank.rank c.loop-rank.invariant c.in_ok-push.ensures.items c.block_key.ensures

pub returns : goal.returns
returns c =
    let whole : c.loop-rank.rank ≡ length c.args.list.now = omega arith in
    subst (λ (l : List ℕ). IsPermutation l (ranks_of c.sort_unstable.new.self.items)) (c.loop-rank.invariant ∙ ap (range_with_len 0) whole)
    (IsPermutation-map (λ (t : BlockKey). t.rank) c.loop-rank.block_keys.items c.sort_unstable.new.self.items c.sort_unstable.ensures.permutation)
