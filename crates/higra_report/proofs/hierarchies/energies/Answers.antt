use Rattle.std.proofs.Common.{◌∙◌}
use Rattle.higra_report.proofs.EnergyLemmas.{areas_small}
use Rattle.higra_report.proofs.hierarchies.energies.Goals as goal

pub node_energies-requires-clause-small : goal.node_energies-requires-clause-small
node_energies-requires-clause-small g c =
    areas_small c.args.graph.now c.args.tree.now c.in_ok-attributes.attributes c.deref.result.now c.requires c.in_ok-attributes.ensures (c.deref.ensures.value ∙ c.in_ok-areas.ensures)
