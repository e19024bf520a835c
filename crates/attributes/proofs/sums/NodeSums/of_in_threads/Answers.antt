use Rattle.std.proofs.Common.{◌<◌, ◌^◌, ℕ, sym, subst, All}
use Rattle.std.proofs.lemmas.Result.{IfOk-weaker}
use Rattle.attributes.proofs.Totals.{HasGraphTree, tree-of_graph}
use Rattle.attributes.proofs.AttributesOfGraph.{AreLeafValues, floors-light, leaf-values, leaves-gather, node-values}
use Rattle.attributes.proofs.sums.NodeSums.of_in_threads.Goals as goal

pub products-requires-clause-light : goal.products-requires-clause-light
products-requires-clause-light g c =
    subst (All (λ (w : ℕ). w < 2 ^ 32)) (sym c.deref-2.ensures.value)
    (floors-light c.args.graph.now c.args.graph.now.n c.in_ok-floors.floors.items c.keeps_its_rules.ensures.light c.in_ok-floors.ensures)

pub side_by_side-requires-clause-leaves : goal.side_by_side-requires-clause-leaves
side_by_side-requires-clause-leaves r c κs within =
    let g = c.args.graph.now in
    let t = c.args.tree.now in
    let light = c.keeps_its_rules.ensures.light in
    let k : HasGraphTree g t = tree-of_graph g t c.requires c.keeps_its_rules.ensures.graph light in
    let v : AreLeafValues g t c.in_ok-floors.floors.items c.in_ok-areas.areas.items c.in_ok-products.products.items =
    leaf-values g t c.in_ok-floors.floors.items c.in_ok-areas.areas.items c.in_ok-products.products.items c.deref-2.result.now c.deref.result.now k.leaves light
    c.in_ok-floors.ensures c.in_ok-areas.ensures.areas c.in_ok-areas.ensures.small c.deref-2.ensures.value c.deref.ensures.value c.in_ok-products.ensures in
    leaves-gather g t c.in_ok-floors.floors.items c.in_ok-areas.areas.items c.in_ok-products.products.items c.deref-5.result.now c.deref-3.result.now c.deref-4.result.now k v
    c.deref-5.ensures.value c.deref-3.ensures.value c.deref-4.ensures.value

pub returns : goal.returns
returns r c =
    let g = c.args.graph.now in
    let t = c.args.tree.now in
    let light = c.keeps_its_rules.ensures.light in
    let k : HasGraphTree g t = tree-of_graph g t c.requires c.keeps_its_rules.ensures.graph light in
    let v : AreLeafValues g t c.in_ok-floors.floors.items c.in_ok-areas.areas.items c.in_ok-products.products.items =
    leaf-values g t c.in_ok-floors.floors.items c.in_ok-areas.areas.items c.in_ok-products.products.items c.deref-2.result.now c.deref.result.now k.leaves light
    c.in_ok-floors.ensures c.in_ok-areas.ensures.areas c.in_ok-areas.ensures.small c.deref-2.ensures.value c.deref.ensures.value c.in_ok-products.ensures in
    IfOk-weaker c.side_by_side.result _ _
    (λ sums found.
    node-values g t c.in_ok-floors.floors.items c.in_ok-areas.areas.items c.in_ok-products.products.items c.deref-5.result.now c.deref-3.result.now c.deref-4.result.now _ _ _ k v
    c.deref-3.ensures.value c.deref-4.ensures.value c.deref-5.ensures.value found.0 found.1 found.2)
    c.side_by_side.ensures
