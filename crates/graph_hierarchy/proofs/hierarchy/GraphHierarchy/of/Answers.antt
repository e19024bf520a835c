use Rattle.graph_hierarchy.proofs.HierarchyLemmas.{hierarchy_is}
use Rattle.graph_hierarchy.proofs.hierarchy.GraphHierarchy.of.Goals as goal

pub returns : goal.returns
returns g c =
    hierarchy_is c.args.graph.now c.args.tiling c.args.workers c.in_ok-plan.plan _ c.in_ok-plan.ensures c.in_ok-order.ensures c.in_ok-tree.ensures.tree c.in_ok-tree.ensures.receipt
