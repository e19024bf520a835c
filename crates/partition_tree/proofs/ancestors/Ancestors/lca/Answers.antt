use Rattle.std.proofs.Common.{◌<◌, subst, sym}
use Rattle.partition_tree.specs.TreeLists.{nodes}
use Rattle.partition_tree.proofs.PathLemmas.{shares-told}
use Rattle.partition_tree.proofs.ancestors.Ancestors.lca.Goals as goal

pub returns-clause-roots : goal.returns-clause-roots
returns-clause-roots c =
    rw (← c.self.view_is) (shares-told c.self.inside.tree.now c.self.invariant.well_formed c.args.a c.args.b (subst (λ t. c.args.a < nodes t) (sym c.self.view_is) c.requires.a) c.lca.result c.lca.ensures.lowest)
