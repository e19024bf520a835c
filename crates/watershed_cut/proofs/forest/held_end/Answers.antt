use Rattle.watershed_cut.proofs.ChosenEdges.{maker-below}
use Rattle.watershed_cut.proofs.forest.held_end.Goals as goal

pub edge-edge-requires : goal.edge-edge-requires
edge-edge-requires c = maker-below c.args.graph.now c.args.tree.now _ c.maker.result c.requires.tree c.maker.ensures
