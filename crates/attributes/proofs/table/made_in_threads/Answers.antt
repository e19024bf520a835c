use Rattle.attributes.proofs.Totals.{HasGraphTree, tree-of_graph}
use Rattle.attributes.proofs.AttributesOfGraph.{sums-give, attributes-made}
use Rattle.attributes.proofs.table.made_in_threads.Goals as goal

pub volumes_beside_dynamics-requires-clause-sums : goal.volumes_beside_dynamics-requires-clause-sums
volumes_beside_dynamics-requires-clause-sums r c κs within =
    let g = c.args.graph.now in
    let t = c.args.tree.now in
    let s = c.in_ok-sums.sums in
    let k : HasGraphTree g t = tree-of_graph g t c.requires c.keeps_its_rules.ensures.graph c.keeps_its_rules.ensures.light in
    sums-give g t s.areas.items s.products.items s.lowest.items c.deref.result.now c.deref-2.result.now c.deref-3.result.now k c.in_ok-sums.ensures
    c.deref.ensures.value c.deref-2.ensures.value c.deref-3.ensures.value

pub invariant_of-result : goal.invariant_of-result
invariant_of-result r c =
    let g = c.args.graph.now in
    let t = c.args.tree.now in
    let s = c.in_ok-sums.sums in
    let k : HasGraphTree g t = tree-of_graph g t c.requires c.keeps_its_rules.ensures.graph c.keeps_its_rules.ensures.light in
    (attributes-made g t s.areas.items s.products.items s.lowest.items c.in_ok-volumes.volumes.items c.in_ok-volumes.dynamics.items c.deref.result.now c.deref-2.result.now c.deref-3.result.now
    c.requires k c.in_ok-sums.ensures c.deref.ensures.value c.deref-2.ensures.value c.deref-3.ensures.value c.in_ok-volumes.ensures.0 c.in_ok-volumes.ensures.1).fit

pub returns : goal.returns
returns r c =
    let g = c.args.graph.now in
    let t = c.args.tree.now in
    let s = c.in_ok-sums.sums in
    let k : HasGraphTree g t = tree-of_graph g t c.requires c.keeps_its_rules.ensures.graph c.keeps_its_rules.ensures.light in
    (attributes-made g t s.areas.items s.products.items s.lowest.items c.in_ok-volumes.volumes.items c.in_ok-volumes.dynamics.items c.deref.result.now c.deref-2.result.now c.deref-3.result.now
    c.requires k c.in_ok-sums.ensures c.deref.ensures.value c.deref-2.ensures.value c.deref-3.ensures.value c.in_ok-volumes.ensures.0 c.in_ok-volumes.ensures.1).result
