use Rattle.watershed_cut.proofs.LabelLemmas.{graph-rise, keys-below, minima-made}
use Rattle.watershed_cut.proofs.minima.Minima.by_tree.Goals as goal

pub plateau_keys-requires : goal.plateau_keys-requires
plateau_keys-requires c = graph-rise c.args.graph.now c.args.tree.now c.requires

pub number_keys-requires-clause-below : goal.number_keys-requires-clause-below
number_keys-requires-clause-below c =
    keys-below c.args.tree.now c.nodes.result c.in_ok-keys.keys.items c.deref.result.now c.in_ok-keys.ensures.well_formed c.in_ok-keys.ensures.keys c.deref.ensures.value c.nodes.ensures.value

pub returns : goal.returns
returns c =
    minima-made c.args.graph.now c.args.tree.now c.in_ok-keys.keys.items c.deref.result.now c.in_ok-numbering.numbering.count c.in_ok-numbering.numbering.labels.items c.deref-2.result.now c.in_ok-edges.edges.items
    c.requires c.in_ok-keys.ensures.well_formed c.in_ok-keys.ensures.keys c.deref.ensures.value c.in_ok-edges.ensures.ends c.in_ok-numbering.ensures.labels c.in_ok-numbering.ensures.count c.deref-2.ensures.value c.in_ok-edges.ensures.labels
