use Rattle.std.proofs.Common.{◌≡◌, ◌<◌, ℕ, sym, subst, arith, length}
use Rattle.watershed_cut.proofs.ChosenEdges.{maker-below, maker-is}
use Rattle.watershed_cut.proofs.forest.makes_forest.Goals as goal

pub edge-edge-requires : goal.edge-edge-requires
edge-edge-requires c = maker-below c.args.graph.now c.args.tree.now _ c.maker-maker.result c.requires.tree c.maker-maker.ensures

pub label_of_edge-requires : goal.label_of_edge-requires
label_of_edge-requires c =
    let low = maker-below c.args.graph.now c.args.tree.now _ c.maker-maker.result c.requires.tree c.maker-maker.ensures in
    let long : length c.args.minima.now.edges ≡ length c.args.graph.now.edges = c.requires.minima in
    omega (arith, low, long)

pub returns-after-near-edge-clause-maker : goal.returns-after-near-edge-clause-maker
returns-after-near-edge-clause-maker c =
    let low : c.maker-maker.result < length c.args.graph.now.edges = maker-below c.args.graph.now c.args.tree.now _ c.maker-maker.result c.requires.tree c.maker-maker.ensures in
    subst (λ (m : ℕ). m < length c.args.graph.now.edges) (sym (maker-is c.args.tree.now c.args.i c.maker-maker.result c.maker-maker.ensures)) low

pub returns-else-label_of_edge-eq0-clause-maker : goal.returns-else-label_of_edge-eq0-clause-maker
returns-else-label_of_edge-eq0-clause-maker c =
    let low : c.maker-maker.result < length c.args.graph.now.edges = maker-below c.args.graph.now c.args.tree.now _ c.maker-maker.result c.requires.tree c.maker-maker.ensures in
    subst (λ (m : ℕ). m < length c.args.graph.now.edges) (sym (maker-is c.args.tree.now c.args.i c.maker-maker.result c.maker-maker.ensures)) low
