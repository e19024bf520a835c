-- What the passes over the nodes of a weighed graph's tree give.
use Rattle.std.specs.Prelude.{◌≡◌, ◌≢◌, ℕ, ◌==◌, ◌+◌, ◌<◌, ◌≤◌, ◌⊎◌, Bool, not, ◌||◌, List, length, map, nat_lt, get_or, IsTrue, if◌then◌else◌}
use Rattle.std.specs.List.{range_with_len}
use Rattle.tree_laws.specs.Tree.{ParentTree, parent, altitude, IsAbove}
use Rattle.component_tree.specs.declared.side.Side.{Side}
use Rattle.component_tree.specs.declared.nodes.Component.{Component}
use Rattle.component_tree.specs.declared.side.Side.TheVariants.{Min}
use Rattle.edge_laws.specs.Edges.{ListedEdge, EdgeList, AreApart, AreWithin}
use Rattle.hg_base.specs.Lists.{IsIn}
use Rattle.edge_laws.specs.Saliency.{AreByWeight}
use Rattle.component_tree.specs.Components.{ComponentLists, IsComponentTree}
use Rattle.component_tree.specs.MinTree.{turned, turned_back, value_at}

-- the level of a node, as a min tree sees it: a leaf's value, another node's altitude
abbrev pub level_in : Side → List ℕ → ParentTree → ℕ → ℕ
level_in side values t i = if nat_lt i t.leaves then turned side (value_at values i) else altitude t i

-- the levels of all nodes
abbrev pub levels_in : Side → List ℕ → ParentTree → List ℕ
levels_in side values t = map (level_in side values t) (range_with_len 0 (length t.parents))

-- the vertices below node i are those of a component at its level: it is a root, or of another level than its parent
abbrev pub is_component : ParentTree → List ℕ → ℕ → Bool
is_component t levels i = (parent t i == i) || not (get_or levels i 0 == get_or levels (parent t i) 0)

-- each node is above a leaf
abbrev pub HasLeaves : ParentTree → Type 0
HasLeaves t = (i : ℕ) → i < length t.parents → (x : ℕ) × ((x < t.leaves) × IsAbove t i x)

-- for each node the least leaf below it
pub record AreLeasts (t : ParentTree) (leasts : List ℕ) : Type 0 where
  pub one_each : length leasts ≡ length t.parents
  pub leaf : (i : ℕ) → i < length t.parents → get_or leasts i 0 < t.leaves
  pub below : (i : ℕ) → i < length t.parents → IsAbove t i (get_or leasts i 0)
  pub least : (i y : ℕ) → i < length t.parents → y < t.leaves → IsAbove t i y → get_or leasts i 0 ≤ y

-- the component at a place of a list
abbrev pub component_at : List Component → ℕ → Component
component_at list k = get_or list k (record { level = 0; least = 0; node = 0 })

-- the component whose vertices are below node i
abbrev pub component_of : List ℕ → List ℕ → ℕ → Component
component_of levels leasts i = record { level = get_or levels i 0; least = get_or leasts i 0; node = i }

-- by level, then by least vertex
pub record IsNoLater (a b : Component) : Type 0 where
  pub level : a.level ≤ b.level
  pub least : a.level ≡ b.level → a.least ≤ b.least

-- the components of a tree's nodes, each once, in order
pub record AreComponents (t : ParentTree) (levels leasts : List ℕ) (list : List Component) : Type 0 where
  pub few : length list ≤ 2097151
  pub node : (k : ℕ) → k < length list → (component_at list k).node < length t.parents
  pub each : (k : ℕ) → k < length list → component_at list k ≡ component_of levels leasts (component_at list k).node
  pub is : (k : ℕ) → k < length list → IsTrue (is_component t levels (component_at list k).node)
  pub all : (i : ℕ) → i < length t.parents → IsTrue (is_component t levels i) → (k : ℕ) × ((k < length list) × ((component_at list k).node ≡ i))
  pub once : (k l : ℕ) → k < l → l < length list → (component_at list k).node ≢ (component_at list l).node
  pub in_order : (k l : ℕ) → k < l → l < length list → IsNoLater (component_at list k) (component_at list l)

-- k is the place of the component that is at or above node i with the level of i
pub record IsNearestPlace (t : ParentTree) (levels : List ℕ) (list : List Component) (i k : ℕ) : Type 0 where
  pub within : k < length list
  pub above : IsAbove t (component_at list k).node i
  pub level : get_or levels (component_at list k).node 0 ≡ get_or levels i 0

-- so for each node
pub record ArePlaces (t : ParentTree) (levels : List ℕ) (list : List Component) (places : List ℕ) : Type 0 where
  pub one_each : length places ≡ length t.parents
  pub each : (i : ℕ) → i < length t.parents → IsNearestPlace t levels list i (get_or places i 0)

-- each component's place is at its node
pub record AreOwnPlaces (t : ParentTree) (list : List Component) (places : List ℕ) : Type 0 where
  pub one_each : length places ≡ length t.parents
  pub own : (k : ℕ) → k < length list → get_or places (component_at list k).node 0 ≡ k

-- the components of a tree's nodes and the places at its nodes
abbrev pub ArePlaced : ParentTree → List Component → List ℕ → Type 0
ArePlaced t list places = (levels : List ℕ) × ((leasts : List ℕ) × (AreComponents t levels leasts list × ArePlaces t levels list places))

-- the parent of a leaf: the node at its place
abbrev pub parent_of_leaf : ParentTree → List ℕ → ℕ → ℕ
parent_of_leaf t places x = t.leaves + get_or places x 0

-- the parent of a component: the node at the place of its node's parent
abbrev pub component_parent : ParentTree → List ℕ → Component → ℕ
component_parent t places c = t.leaves + get_or places (parent t c.node) 0

-- an edge weighs the greater value of its ends
pub record IsGreaterEnd (f : ℕ → ℕ) (e : ListedEdge) : Type 0 where
  pub first : f e.u ≤ e.weight
  pub second : f e.v ≤ e.weight
  pub either : (e.weight ≡ f e.u) ⊎ (e.weight ≡ f e.v)

-- so for each edge
abbrev pub AreGreaterEnds : (ℕ → ℕ) → EdgeList → Type 0
AreGreaterEnds f s = (e : ListedEdge) → IsIn e s → IsGreaterEnd f e

-- edges by weight between vertices below n, each of which weighs the greater value of its ends
pub record AreFloodEdges (f : ℕ → ℕ) (n : ℕ) (s : EdgeList) : Type 0 where
  pub apart : AreApart s
  pub within : AreWithin n s
  pub by_weight : AreByWeight s
  pub weights : AreGreaterEnds f s

-- the tree is a min tree of the turned values, with its levels turned back
pub record IsTurnedTree (side : Side) (values : List ℕ) (n : ℕ) (s : EdgeList) (tree : ComponentLists) : Type 0 where
  pub min : ComponentLists
  pub is : IsComponentTree Min (λ x. turned side (value_at values x)) n s min
  pub turned : tree ≡ turned_back side min
