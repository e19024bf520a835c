-- The leaves below the nodes of a graph's tree are the components of its fronts.
use Rattle.std.proofs.Common.{◌≡◌, ℕ, ◌<◌, List, length}
use Rattle.hg_base.specs.Graph.{WeightedGraph, IsGraph}
use Rattle.edge_laws.specs.Edges.{EdgeList, component, below}
use Rattle.edge_laws.specs.Rank.{ranked, front}
use Rattle.tree_laws.specs.Tree.{HasComponent, AreLeavesBelow, IsFrontTree, tree_of, graph_tree}
use Rattle.tree_laws.proofs.FrontOnce.{front-tree}
use Rattle.edge_laws.proofs.Ranked.{AreApart-ranked, AreWithin-ranked}
use Rattle.edge_laws.proofs.Exactly.{component-exactly}

-- the leaves below a node are the component that the node has
leaves-component : (n : ℕ) (s : EdgeList) (i k x : ℕ) → HasComponent (tree_of n s) n s i k x → AreLeavesBelow (tree_of n s) i (component n (below s k) x)
leaves-component n s i k x has y = (
  λ m. (let p = (component-exactly n (below s k) x y).0 m in (p.0, (has y p.0).1 p.1)),
  λ p. (component-exactly n (below s k) x y).1 (p.0, (has y p.0).0 p.1),
)

-- a node has the component that its leaves are
component-leaves : (n : ℕ) (s : EdgeList) (i k x : ℕ) (leaves : List ℕ) → AreLeavesBelow (tree_of n s) i leaves → AreLeavesBelow (tree_of n s) i (component n (below s k) x) →
    (j : ℕ) → AreLeavesBelow (tree_of n s) j leaves → HasComponent (tree_of n s) n s j k x
component-leaves n s i k x leaves here part j there y lt = (
  λ above.
      let member = (there y).1 (lt, above) in
      let same = (here y).0 member in
      ((component-exactly n (below s k) x y).0 ((part y).1 same)).1,
  λ join.
      let same = (part y).0 ((component-exactly n (below s k) x y).1 (lt, join)) in
      ((there y).0 ((here y).1 same)).1,
)

tree-of_graph : (g : WeightedGraph) → IsGraph g → IsFrontTree (graph_tree g) g.n (ranked g)
tree-of_graph g h = front-tree g.n (ranked g) (AreApart-ranked g) (AreWithin-ranked g h)

-- each component of a front is the leaves below a node
pub component-node : (g : WeightedGraph) (k x : ℕ) → IsGraph g → x < g.n → (i : ℕ) × ((i < length (graph_tree g).parents) × AreLeavesBelow (graph_tree g) i (component g.n (front g k) x))
component-node g k x h lt =
    let found = (tree-of_graph g h).each_component k x lt in
    (found.0, (found.1.0, leaves-component g.n (ranked g) found.0 k x found.1.1))

-- the leaves below each node are a component of a front
pub node-component : (g : WeightedGraph) (i : ℕ) → IsGraph g → i < length (graph_tree g).parents → (k : ℕ) × ((x : ℕ) × ((x < g.n) × AreLeavesBelow (graph_tree g) i (component g.n (front g k) x)))
node-component g i h lt =
    let found = (tree-of_graph g h).each_node i lt in
    (found.0, (found.1.0, (found.1.1.0, leaves-component g.n (ranked g) i found.0 found.1.0 found.1.1.1)))

-- no two nodes have the same leaves below them
pub leaves-once : (g : WeightedGraph) (i j : ℕ) (leaves : List ℕ) → IsGraph g → i < length (graph_tree g).parents → j < length (graph_tree g).parents →
    AreLeavesBelow (graph_tree g) i leaves → AreLeavesBelow (graph_tree g) j leaves → i ≡ j
leaves-once g i j leaves h hi hj here there =
    let found = (tree-of_graph g h).each_node i hi in
    let part = leaves-component g.n (ranked g) i found.0 found.1.0 found.1.1.1 in
    (tree-of_graph g h).once found.0 found.1.0 i j found.1.1.0 hi hj found.1.1.1
    (component-leaves g.n (ranked g) i found.0 found.1.0 leaves here part j there)
