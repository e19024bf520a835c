use Rattle.std.proofs.Common.{◌+◌, ◌-◌}
use Rattle.watershed_cut.proofs.ChosenEdges.{maker-below}
use Rattle.extinction.proofs.basin_edges.renamed.Goals as goal

pub edge-edge-requires : goal.edge-edge-requires
edge-edge-requires c = maker-below c.args.graph.now c.args.tree.now (c.leaves.result + c.args.place - c.args.tree.now.leaves) c.maker-maker.result c.requires.tree c.maker-maker.ensures
