use Rattle.std.proofs.Common.{sym, ◌∙◌, subst}
use Rattle.tree_laws.specs.Tree.{ParentTree, IsFrontTree}
use Rattle.tile_plan.specs.Plan.{vertices}
use Rattle.partition_tree.specs.TreeLists.{lists_of}
use Rattle.partition_tree.proofs.PlanTree.{drawn-tree, drawn-forest, planned-fronts}
use Rattle.partition_tree.proofs.plan.tree_of_lists.Goals as goal

pub new-requires : goal.new-requires
new-requires c =
    let drawn = c.requires.drawn in
    drawn-forest c.args.order.now c.args.plan.now c.args.part.now (record { is_plan = c.n-n.ensures.plan; graph = c.keeps_its_rules.ensures.graph; edges = c.requires.edges; first = c.requires.first; places = c.requires.places; small = c.keeps_its_rules.ensures.edges; stands = c.requires.stands })
    (lists_of c.n-n.result c.args.lists.parents.items c.args.lists.altitudes.items c.args.lists.makers.items)
    (drawn-tree c.args.order.now c.args.plan.now c.args.part.now c.n-n.result drawn.0 _ _ _ (record { is_plan = c.n-n.ensures.plan; graph = c.keeps_its_rules.ensures.graph; edges = c.requires.edges; first = c.requires.first; places = c.requires.places; small = c.keeps_its_rules.ensures.edges; stands = c.requires.stands })
    c.n-n.ensures.value drawn.1.0 drawn.1.1)

pub returns-clause-tree : goal.returns-clause-tree
returns-clause-tree c =
    let drawn = c.requires.drawn in
    c.new.ensures
    ∙ drawn-tree c.args.order.now c.args.plan.now c.args.part.now c.n-n.result drawn.0 _ _ _ (record { is_plan = c.n-n.ensures.plan; graph = c.keeps_its_rules.ensures.graph; edges = c.requires.edges; first = c.requires.first; places = c.requires.places; small = c.keeps_its_rules.ensures.edges; stands = c.requires.stands })
    c.n-n.ensures.value drawn.1.0 drawn.1.1

pub returns-clause-fronts : goal.returns-clause-fronts
returns-clause-fronts c =
    let drawn = c.requires.drawn in
    subst (λ (t : ParentTree). IsFrontTree t (vertices c.args.plan.now) c.args.plan.now.edges)
    (sym (c.new.ensures
    ∙ drawn-tree c.args.order.now c.args.plan.now c.args.part.now c.n-n.result drawn.0 _ _ _ (record { is_plan = c.n-n.ensures.plan; graph = c.keeps_its_rules.ensures.graph; edges = c.requires.edges; first = c.requires.first; places = c.requires.places; small = c.keeps_its_rules.ensures.edges; stands = c.requires.stands })
    c.n-n.ensures.value drawn.1.0 drawn.1.1))
    (planned-fronts c.args.plan.now c.n-n.ensures.plan)
