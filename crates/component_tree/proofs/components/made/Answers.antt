use Rattle.std.proofs.Common.{◌≡◌, ℕ, ◌≤◌, sym, ◌∙◌, subst, ap}
use Rattle.std.proofs.lemmas.Result.{IfOk-weaker}
use Rattle.edge_laws.specs.Rank.{ranked}
use Rattle.tree_laws.specs.Tree.{ParentTree, altitude, tree_of}
use Rattle.component_tree.specs.Components.{ComponentLists, IsComponentTree}
use Rattle.component_tree.specs.MinTree.{turned, value_at, component_tree_of}
use Rattle.component_tree.specs.NodeComponents.{HasLeaves, AreFloodEdges, IsTurnedTree}
use Rattle.component_tree.proofs.Sided.{value-fits, turned-fits}
use Rattle.component_tree.proofs.Flooded.{low-altitudes}
use Rattle.component_tree.proofs.ListsOfTree.{weighed-flood, flood-leaves, turned-components, turned-function}
use Rattle.component_tree.proofs.components.made.Goals as goal

pub tree_of_nodes-requires-clause-low : goal.tree_of_nodes-requires-clause-low
tree_of_nodes-requires-clause-low c = λ i.
    let w = c.args.graph.now in
    let v = c.args.values.now in
    let fits = value-fits v c.keeps_its_rules-2.ensures.each in
    subst (λ (u : ParentTree). altitude u i ≤ 4294967295) (sym c.requires.tree)
    (low-altitudes (λ x. turned c.args.side (value_at v x)) w.n (ranked w) (weighed-flood c.args.side v w c.requires.weighed.0 c.requires.weighed.1 fits c.keeps_its_rules.ensures.graph)
    (λ x. turned-fits c.args.side (value_at v x) (fits x)) i)

pub tree_of_nodes-requires-clause-leaves : goal.tree_of_nodes-requires-clause-leaves
tree_of_nodes-requires-clause-leaves c =
    let w = c.args.graph.now in
    let v = c.args.values.now in
    let fits = value-fits v c.keeps_its_rules-2.ensures.each in
    subst HasLeaves (sym c.requires.tree)
    (flood-leaves (λ x. turned c.args.side (value_at v x)) w.n (ranked w) (weighed-flood c.args.side v w c.requires.weighed.0 c.requires.weighed.1 fits c.keeps_its_rules.ensures.graph))

pub returns-clause-function : goal.returns-clause-function
returns-clause-function c = λ g e.
    let w = c.args.graph.now in
    let v = c.args.values.now in
    let t = c.args.tree.now in
    let fits = value-fits v c.keeps_its_rules-2.ensures.each in
    let flood = weighed-flood c.args.side v w g e fits c.keeps_its_rules.ensures.graph in
    let leaves : t.leaves ≡ w.n = ap (λ (u : ParentTree). u.leaves) c.requires.tree in
    IfOk-weaker c.tree_of_nodes.result _ (λ (tree : ComponentLists). tree ≡ component_tree_of c.args.side v g)
    (λ tree is. turned-function c.args.side v w g tree e fits c.keeps_its_rules.ensures.graph (subst (λ (n : ℕ). IsTurnedTree c.args.side v n (ranked w) tree) leaves is))
    (c.tree_of_nodes.ensures (ranked w) (subst (λ (n : ℕ). AreFloodEdges (λ x. turned c.args.side (value_at v x)) n (ranked w)) (sym leaves) flood) (c.requires.tree ∙ ap (λ (n : ℕ). tree_of n (ranked w)) (sym leaves)))

pub returns-clause-components : goal.returns-clause-components
returns-clause-components c = λ g e.
    let w = c.args.graph.now in
    let v = c.args.values.now in
    let t = c.args.tree.now in
    let fits = value-fits v c.keeps_its_rules-2.ensures.each in
    let flood = weighed-flood c.args.side v w g e fits c.keeps_its_rules.ensures.graph in
    let leaves : t.leaves ≡ w.n = ap (λ (u : ParentTree). u.leaves) c.requires.tree in
    IfOk-weaker c.tree_of_nodes.result _ (λ (tree : ComponentLists). IsComponentTree c.args.side (value_at v) g.n (ranked g) tree)
    (λ tree is. turned-components c.args.side v w g tree e fits (subst (λ (n : ℕ). IsTurnedTree c.args.side v n (ranked w) tree) leaves is))
    (c.tree_of_nodes.ensures (ranked w) (subst (λ (n : ℕ). AreFloodEdges (λ x. turned c.args.side (value_at v x)) n (ranked w)) (sym leaves) flood) (c.requires.tree ∙ ap (λ (n : ℕ). tree_of n (ranked w)) (sym leaves)))
