use Rattle.std.proofs.Common.{◌*◌, ◌<◌, ◌^◌, ℕ, sym, subst, get_or, All}
use Rattle.std.specs.List.{range_with_len}
use Rattle.attributes.specs.Attributes.{area, floor}
use Rattle.attributes.proofs.Totals.{HasGraphTree, tree-of_graph}
use Rattle.attributes.proofs.AttributesOfGraph.{AreLeafValues, floors-light, leaf-values, leaf-length, areas-fit, products-fit, lowest-fit, node-values}
use Rattle.attributes.proofs.sums.NodeSums.of.Goals as goal

pub products-requires-clause-light : goal.products-requires-clause-light
products-requires-clause-light c =
    subst (All (λ (w : ℕ). w < 2 ^ 32)) (sym c.deref-2.ensures.value)
    (floors-light c.args.graph.now c.args.graph.now.n c.in_ok-floors.floors.items c.keeps_its_rules.ensures.light c.in_ok-floors.ensures)

pub gathered-requires : goal.gathered-requires
gathered-requires c =
    let g = c.args.graph.now in
    let t = c.args.tree.now in
    let light = c.keeps_its_rules.ensures.light in
    let k : HasGraphTree g t = tree-of_graph g t c.requires c.keeps_its_rules.ensures.graph light in
    let v : AreLeafValues g t c.in_ok-floors.floors.items c.in_ok-areas.areas.items c.in_ok-products.products.items =
    leaf-values g t c.in_ok-floors.floors.items c.in_ok-areas.areas.items c.in_ok-products.products.items c.deref-2.result.now c.deref.result.now k.leaves light
    c.in_ok-floors.ensures c.in_ok-areas.ensures.areas c.in_ok-areas.ensures.small c.deref-2.ensures.value c.deref.ensures.value c.in_ok-products.ensures in
    record {
      one_each = leaf-length (area g) t.leaves c.in_ok-areas.areas.items c.deref-3.result.now v.areas_are c.deref-3.ensures.value;
      fits = areas-fit g t c.in_ok-floors.floors.items c.in_ok-areas.areas.items c.in_ok-products.products.items c.deref-3.result.now k v c.deref-3.ensures.value;
    }

pub gathered-requires-2 : goal.gathered-requires-2
gathered-requires-2 c =
    let g = c.args.graph.now in
    let t = c.args.tree.now in
    let light = c.keeps_its_rules.ensures.light in
    let k : HasGraphTree g t = tree-of_graph g t c.requires c.keeps_its_rules.ensures.graph light in
    let v : AreLeafValues g t c.in_ok-floors.floors.items c.in_ok-areas.areas.items c.in_ok-products.products.items =
    leaf-values g t c.in_ok-floors.floors.items c.in_ok-areas.areas.items c.in_ok-products.products.items c.deref-2.result.now c.deref.result.now k.leaves light
    c.in_ok-floors.ensures c.in_ok-areas.ensures.areas c.in_ok-areas.ensures.small c.deref-2.ensures.value c.deref.ensures.value c.in_ok-products.ensures in
    record {
      one_each = leaf-length (λ x. area g x * floor g x) t.leaves c.in_ok-products.products.items c.deref-4.result.now v.products_are c.deref-4.ensures.value;
      fits = products-fit g t c.in_ok-floors.floors.items c.in_ok-areas.areas.items c.in_ok-products.products.items c.deref-4.result.now k v c.deref-4.ensures.value;
    }

pub gathered-requires-3 : goal.gathered-requires-3
gathered-requires-3 c =
    let g = c.args.graph.now in
    let t = c.args.tree.now in
    let light = c.keeps_its_rules.ensures.light in
    let k : HasGraphTree g t = tree-of_graph g t c.requires c.keeps_its_rules.ensures.graph light in
    let v : AreLeafValues g t c.in_ok-floors.floors.items c.in_ok-areas.areas.items c.in_ok-products.products.items =
    leaf-values g t c.in_ok-floors.floors.items c.in_ok-areas.areas.items c.in_ok-products.products.items c.deref-2.result.now c.deref.result.now k.leaves light
    c.in_ok-floors.ensures c.in_ok-areas.ensures.areas c.in_ok-areas.ensures.small c.deref-2.ensures.value c.deref.ensures.value c.in_ok-products.ensures in
    record {
      one_each = leaf-length (floor g) t.leaves c.in_ok-floors.floors.items c.deref-5.result.now v.floors_are c.deref-5.ensures.value;
      fits = lowest-fit (λ x. get_or c.deref-5.result.now x 0) (range_with_len 0 t.leaves);
    }

pub returns : goal.returns
returns c =
    let g = c.args.graph.now in
    let t = c.args.tree.now in
    let light = c.keeps_its_rules.ensures.light in
    let k : HasGraphTree g t = tree-of_graph g t c.requires c.keeps_its_rules.ensures.graph light in
    let v : AreLeafValues g t c.in_ok-floors.floors.items c.in_ok-areas.areas.items c.in_ok-products.products.items =
    leaf-values g t c.in_ok-floors.floors.items c.in_ok-areas.areas.items c.in_ok-products.products.items c.deref-2.result.now c.deref.result.now k.leaves light
    c.in_ok-floors.ensures c.in_ok-areas.ensures.areas c.in_ok-areas.ensures.small c.deref-2.ensures.value c.deref.ensures.value c.in_ok-products.ensures in
    node-values g t c.in_ok-floors.floors.items c.in_ok-areas.areas.items c.in_ok-products.products.items c.deref-5.result.now c.deref-3.result.now c.deref-4.result.now _ _ _ k v
    c.deref-3.ensures.value c.deref-4.ensures.value c.deref-5.ensures.value c.in_ok-gathered.ensures c.in_ok-gathered-2.ensures c.in_ok-gathered-3.ensures
