use Rattle.attributes.proofs.Totals.{HasGraphTree, tree-of_graph}
use Rattle.attributes.proofs.AttributesOfGraph.{volumes-fit, volumes-low, dynamics-low, attributes-made}
use Rattle.attributes.proofs.table.made.Goals as goal

pub volumes-requires-clause-fits : goal.volumes-requires-clause-fits
volumes-requires-clause-fits c =
    let g = c.args.graph.now in
    let t = c.args.tree.now in
    let s = c.in_ok-sums.sums in
    let k : HasGraphTree g t = tree-of_graph g t c.requires c.keeps_its_rules.ensures.graph c.keeps_its_rules.ensures.light in
    volumes-fit g t s.areas.items s.products.items s.lowest.items c.deref.result.now k c.in_ok-sums.ensures c.deref.ensures.value

pub volumes-requires-clause-low : goal.volumes-requires-clause-low
volumes-requires-clause-low c =
    let g = c.args.graph.now in
    let t = c.args.tree.now in
    let s = c.in_ok-sums.sums in
    let k : HasGraphTree g t = tree-of_graph g t c.requires c.keeps_its_rules.ensures.graph c.keeps_its_rules.ensures.light in
    volumes-low g t s.areas.items s.products.items s.lowest.items c.deref.result.now c.deref-2.result.now k c.in_ok-sums.ensures c.deref.ensures.value c.deref-2.ensures.value

pub dynamics-requires-clause-low : goal.dynamics-requires-clause-low
dynamics-requires-clause-low c =
    let g = c.args.graph.now in
    let t = c.args.tree.now in
    let s = c.in_ok-sums.sums in
    let k : HasGraphTree g t = tree-of_graph g t c.requires c.keeps_its_rules.ensures.graph c.keeps_its_rules.ensures.light in
    dynamics-low g t s.areas.items s.products.items s.lowest.items c.deref-3.result.now k c.in_ok-sums.ensures c.deref-3.ensures.value

pub invariant_of-result : goal.invariant_of-result
invariant_of-result c =
    let g = c.args.graph.now in
    let t = c.args.tree.now in
    let s = c.in_ok-sums.sums in
    let k : HasGraphTree g t = tree-of_graph g t c.requires c.keeps_its_rules.ensures.graph c.keeps_its_rules.ensures.light in
    (attributes-made g t s.areas.items s.products.items s.lowest.items c.in_ok-volumes.volumes.items c.in_ok-dynamics.dynamics.items c.deref.result.now c.deref-2.result.now c.deref-3.result.now
    c.requires k c.in_ok-sums.ensures c.deref.ensures.value c.deref-2.ensures.value c.deref-3.ensures.value c.in_ok-volumes.ensures c.in_ok-dynamics.ensures).fit

pub returns : goal.returns
returns c =
    let g = c.args.graph.now in
    let t = c.args.tree.now in
    let s = c.in_ok-sums.sums in
    let k : HasGraphTree g t = tree-of_graph g t c.requires c.keeps_its_rules.ensures.graph c.keeps_its_rules.ensures.light in
    (attributes-made g t s.areas.items s.products.items s.lowest.items c.in_ok-volumes.volumes.items c.in_ok-dynamics.dynamics.items c.deref.result.now c.deref-2.result.now c.deref-3.result.now
    c.requires k c.in_ok-sums.ensures c.deref.ensures.value c.deref-2.ensures.value c.deref-3.ensures.value c.in_ok-volumes.ensures c.in_ok-dynamics.ensures).result
