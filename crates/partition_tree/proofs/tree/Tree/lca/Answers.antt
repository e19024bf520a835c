use Rattle.partition_tree.proofs.PathLemmas.{shares-told}
use Rattle.partition_tree.proofs.tree.Tree.lca.Goals as goal

pub returns-clause-roots : goal.returns-clause-roots
returns-clause-roots c = shares-told c.args.self.now c.met.ensures.well_formed c.args.a c.args.b c.requires.a c.met.result c.met.ensures.lowest
