use Rattle.std.proofs.Common.{◌≡◌, ℕ, ◌-◌, ◌*◌, ◌≤◌, ◌∙◌, arith, sym, ap, subst, List, drop, length, slice_index}
use Rattle.std.proofs.lemmas.List.{length-map}
use Rattle.hg_base.specs.Graph.{WeightedGraph}
use Rattle.edge_laws.specs.Edges.{EdgeList}
use Rattle.hg_base.specs.Lists.{IsIn}
use Rattle.edge_laws.specs.Rising.{IsRising}
use Rattle.edge_order.specs.Order.{EdgeOrder, order_of}
use Rattle.tile_plan.specs.Grids.{lot_in, tiles_in}
use Rattle.tile_plan.specs.Placing.{AreKeys}
use Rattle.tile_plan.specs.Plan.{IsEdgeAmong}
use Rattle.tile_plan.proofs.Filled.{filled_whole}
use Rattle.tile_plan.proofs.ByNumber.{ranked-length, ranked-rising, ranked-among, kept-by_rank, keys-by_rank}
use Rattle.tile_plan.proofs.lists.lot_numbers.Goals as goal

-- there are as many ranks as the graph has edges
as-many : (g : WeightedGraph) (o : EdgeOrder) → o ≡ order_of g → length o.edges ≡ length g.edges
as-many g o same = ap (λ (z : EdgeOrder). length z.edges) same ∙ ranked-length g

pub rank_lots-requires-clause-own : goal.rank_lots-requires-clause-own
rank_lots-requires-clause-own g c =
    ap length (c.deref.ensures.value ∙ c.in_ok-own.ensures.numbers) ∙ length-map c.args.graph.now.edges _ ∙ sym (as-many c.args.graph.now c.args.order.now c.requires.order)

pub returns-clause-numbers : goal.returns-clause-numbers
returns-clause-numbers g c =
    let filled = c.rank_lots.new.numbers in
    let rest : List ℕ = drop (length filled) c.in_ok-numbers.numbers.items in
    let long : c.in_ok-numbers.numbers.len ≡ length filled = omega (arith, c.in_ok-numbers.numbers.ok, c.deref_mut.ensures.len, c.rank_lots.auto.numbers) in
    let many : length filled ≡ length c.args.order.now.edges = omega (arith, long, c.in_ok-numbers.ensures.len, c.len.ensures.value) in
    filled_whole c.in_ok-numbers.numbers.len filled rest long
    ∙ kept-by_rank (λ (a b : ℕ). lot_in c.args.grid (slice_index c.args.homes.now a) (slice_index c.args.homes.now b)) c.args.graph.now c.args.order.now c.deref.result.now filled c.requires.order
    (c.deref.ensures.value ∙ c.in_ok-own.ensures.numbers) many c.rank_lots.ensures

pub returns-clause-below : goal.returns-clause-below
returns-clause-below g c =
    let filled = c.rank_lots.new.numbers in
    let own = c.deref.result.now in
    let rest : List ℕ = drop (length filled) c.in_ok-numbers.numbers.items in
    let long : c.in_ok-numbers.numbers.len ≡ length filled = omega (arith, c.in_ok-numbers.numbers.ok, c.deref_mut.ensures.len, c.rank_lots.auto.numbers) in
    let many : length filled ≡ length c.args.order.now.edges = omega (arith, long, c.in_ok-numbers.ensures.len, c.len.ensures.value) in
    let each : length own ≡ length c.args.graph.now.edges = ap length (c.deref.ensures.value ∙ c.in_ok-own.ensures.numbers) ∙ length-map c.args.graph.now.edges _ in
    let keys = subst (AreKeys (2 * tiles_in c.args.grid - 1)) (sym c.deref.ensures.value) c.in_ok-own.ensures.below in
    subst (AreKeys (2 * tiles_in c.args.grid - 1)) (sym (filled_whole c.in_ok-numbers.numbers.len filled rest long))
    (keys-by_rank (2 * tiles_in c.args.grid - 1) c.args.graph.now c.args.order.now own filled c.requires.order each many c.rank_lots.ensures keys)

pub returns-clause-rising : goal.returns-clause-rising
returns-clause-rising g c = subst IsRising (sym (ap (λ (o : EdgeOrder). o.edges) c.requires.order)) (ranked-rising c.args.graph.now)

pub returns-clause-edges : goal.returns-clause-edges
returns-clause-edges g c =
    let graph = c.args.graph.now in
    let few : length graph.edges ≤ 4194304 = omega (arith, as-many graph c.args.order.now c.requires.order, c.len.ensures.edges) in
    λ e i. subst (λ (n : ℕ). IsEdgeAmong n e) (sym (ap (λ (o : EdgeOrder). o.n) c.requires.order))
    (ranked-among graph c.keeps_its_rules.ensures.graph.ends few e (subst (λ (t : EdgeList). IsIn e t) (ap (λ (o : EdgeOrder). o.edges) c.requires.order) i))
