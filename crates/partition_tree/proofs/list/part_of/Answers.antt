use Rattle.std.proofs.Common.{◌≡◌, ◌+◌, ◌∙◌, sym, suc, ap, subst, arith, length, get_or, rules}
use Rattle.std.proofs.lemmas.List.Elements.{All-get_or}
use Rattle.std.proofs.lemmas.List.{length-replicate}
use Rattle.std.specs.Prelude.{None}
use Rattle.node_region.specs.Pool.{count}
use Rattle.border_climb.specs.Stands.{PartState, Stands}
use Rattle.partition_tree.specs.Ranked.{IsRankedEdge, edge_at}
use Rattle.partition_tree.specs.BlockKeys.{AreBlockKeys}
use Rattle.partition_tree.proofs.RankByRank.{ranks_of, given_by, given-whole, block_keys-length, key-low, key-new, key-read}
use Rattle.partition_tree.proofs.list.part_of.Goals as goal

pub loop-key-init : goal.loop-key-init
loop-key-init c =
    let told : AreBlockKeys c.args.list.now c.in_ok-block_keys.block_keys.items = search rules in
    record {
      first = ap (λ (p : PartState). p.region.first) c.in_ok-part.ensures.part;
      count = ap (λ (p : PartState). count p.region) c.in_ok-part.ensures.part ∙ length-replicate c.args.n None;
      block_keys = subst (AreBlockKeys c.args.list.now) (sym c.deref-key-items.ensures.value) told;
      stands = c.in_ok-part.ensures.stands;
    }

pub bounds-list-key : goal.bounds-list-key
bounds-list-key c = key-low c.args.list.now c.deref-key-items.result.now c.loop-key.key-index _ c.loop-key.invariant.block_keys c.loop-key-test.true

pub give-requires-clause-a : goal.give-requires-clause-a
give-requires-clause-a c =
    let key = get_or c.deref-key-items.result.now c.loop-key.key-index (record { last = 0; span = 0; rank = 0 }) in
    let two : IsRankedEdge c.args.n (get_or c.args.list.now key.rank (record { u = 0; v = 0; edge = 0; altitude = 0 })) =
    All-get_or (IsRankedEdge c.args.n) c.args.list.now key.rank _ (key-low c.args.list.now c.deref-key-items.result.now c.loop-key.key-index _ c.loop-key.invariant.block_keys c.loop-key-test.true) c.requires.ends in
    (omega (arith, c.loop-key.invariant.first), omega (arith, c.loop-key.invariant.first, c.loop-key.invariant.count, two.u))

pub give-requires-clause-b : goal.give-requires-clause-b
give-requires-clause-b c =
    let key = get_or c.deref-key-items.result.now c.loop-key.key-index (record { last = 0; span = 0; rank = 0 }) in
    let two : IsRankedEdge c.args.n (get_or c.args.list.now key.rank (record { u = 0; v = 0; edge = 0; altitude = 0 })) =
    All-get_or (IsRankedEdge c.args.n) c.args.list.now key.rank _ (key-low c.args.list.now c.deref-key-items.result.now c.loop-key.key-index _ c.loop-key.invariant.block_keys c.loop-key-test.true) c.requires.ends in
    (omega (arith, c.loop-key.invariant.first), omega (arith, c.loop-key.invariant.first, c.loop-key.invariant.count, two.v))

pub give-requires-clause-two : goal.give-requires-clause-two
give-requires-clause-two c =
    (All-get_or (IsRankedEdge c.args.n) c.args.list.now _ _ (key-low c.args.list.now c.deref-key-items.result.now c.loop-key.key-index _ c.loop-key.invariant.block_keys c.loop-key-test.true) c.requires.ends).apart

pub give-requires-clause-stands : goal.give-requires-clause-stands
give-requires-clause-stands c = (
  given_by c.args.list.now (ranks_of c.deref-key-items.result.now) c.loop-key.key-index,
  (c.loop-key.invariant.stands, key-new c.args.list.now c.deref-key-items.result.now c.loop-key.key-index _ c.loop-key.invariant.block_keys c.loop-key-test.true),
)

pub loop-key-preserved : goal.loop-key-preserved
loop-key-preserved c =
    let order = ranks_of c.deref-key-items.result.now in
    let more : Stands c.give.new.self (given_by c.args.list.now (ranks_of c.deref-key-items.result.now) (suc c.loop-key.key-index)) =
    c.give.ensures.stands (edge_at c.args.list.now (get_or order c.loop-key.key-index 0)) (given_by c.args.list.now order c.loop-key.key-index)
    (key-read c.args.list.now c.deref-key-items.result.now c.loop-key.key-index _ _ c.loop-key.invariant.block_keys c.loop-key-test.true)
    c.loop-key.invariant.stands
    (key-new c.args.list.now c.deref-key-items.result.now c.loop-key.key-index _ c.loop-key.invariant.block_keys c.loop-key-test.true) in
    let next : suc c.loop-key.key-index ≡ c.loop-key.key-index + 1 = omega arith in
    record {
      first = c.give.ensures.kept.range.first ∙ c.loop-key.invariant.first;
      count = c.give.ensures.kept.range.count ∙ c.loop-key.invariant.count;
      block_keys = c.loop-key.invariant.block_keys;
      stands = subst (λ r. Stands c.give.new.self (given_by c.args.list.now (ranks_of c.deref-key-items.result.now) r)) next more;
    }

pub returns-clause-stands : goal.returns-clause-stands
returns-clause-stands c =
    let long = block_keys-length c.args.list.now c.deref-key-items.result.now c.loop-key.invariant.block_keys in
    let whole : c.loop-key.key-index ≡ length c.args.list.now = omega (arith, long) in
    given-whole c.loop-key.part c.args.list.now (ranks_of c.deref-key-items.result.now) c.loop-key.invariant.block_keys
    (subst (λ r. Stands c.loop-key.part (given_by c.args.list.now (ranks_of c.deref-key-items.result.now) r)) whole c.loop-key.invariant.stands)
