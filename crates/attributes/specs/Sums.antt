-- Sums over the vertices of each node.
use Rattle.std.specs.Prelude.{◌≡◌, ℕ, ◌*◌, ◌-◌, ◌<◌, ◌≤◌, ◌^◌, List, length, map, get_or, slice_index}
use Rattle.std.specs.List.{sum_by}
use Rattle.hg_base.specs.Graph.{WeightedGraph}
use Rattle.tree_laws.specs.Tree.{ParentTree}
use Rattle.partition_tree.specs.TreeLists.{nodes}
use Rattle.attributes.specs.Attributes.{area, floor, least, vertices_below, area_of, altitude_over, node_numbers}

-- for each node the sums of its vertices' areas and of their areas times their floors, and their lowest floor
pub record AreSums (g : WeightedGraph) (t : ParentTree) (areas products lowest : List ℕ) : Type 0 where
  pub one_area_each : length areas ≡ length t.parents
  pub one_product_each : length products ≡ length t.parents
  pub one_lowest_each : length lowest ≡ length t.parents
  pub areas_are : (i : ℕ) → i < length t.parents → get_or areas i 0 ≡ area_of g (vertices_below t i)
  pub areas_small : (i : ℕ) → i < length t.parents → get_or areas i 0 ≤ 2 ^ 32
  pub products_are : (i : ℕ) → i < length t.parents → get_or products i 0 ≡ sum_by (λ x. area g x * floor g x) (vertices_below t i)
  pub lowest_are : (i : ℕ) → i < length t.parents → get_or lowest i 0 ≡ least (map (floor g) (vertices_below t i))

-- areas and sums of products that the volume of each node can be made of
pub record GiveVolumes (t : ParentTree) (areas products : List ℕ) : Type 0 where
  pub one_area_each : length areas ≡ nodes t
  pub one_product_each : length products ≡ nodes t
  pub fits : (i : ℕ) → i < nodes t → altitude_over t i * slice_index areas i < 2 ^ 64
  pub low : (i : ℕ) → i < nodes t → slice_index products i ≤ altitude_over t i * slice_index areas i

-- lowest floors that the dynamics of each node can be made of
pub record GiveDynamics (t : ParentTree) (lowest : List ℕ) : Type 0 where
  pub one_each : length lowest ≡ nodes t
  pub low : (i : ℕ) → i < nodes t → slice_index lowest i ≤ altitude_over t i

-- those volumes
abbrev pub volumes_by : ParentTree → List ℕ → List ℕ → List ℕ
volumes_by t areas products = map (λ i. altitude_over t i * slice_index areas i - slice_index products i) (node_numbers t)

-- those dynamics
abbrev pub dynamics_by : ParentTree → List ℕ → List ℕ
dynamics_by t lowest = map (λ i. altitude_over t i - slice_index lowest i) (node_numbers t)
