use Rattle.watershed_cut.proofs.GraphForest.{forest-rooted}
use Rattle.forest_witness.proofs.forest.witness.Goals as goal

pub returns-clause-rooted : goal.returns-clause-rooted
returns-clause-rooted c = forest-rooted c.args.graph.now c.keeps_its_rules.ensures.graph
