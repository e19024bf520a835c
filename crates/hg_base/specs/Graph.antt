-- Graphs: vertices 0 to n - 1 with areas, and a list of edges with weights. An edge's number is its place in the list.
use Rattle.std.specs.Prelude.{◌≡◌, ◌≢◌, ℕ, ◌<◌, ◌≤◌, ◌^◌, List, length, replicate, All, slice_get}
use Rattle.std.specs.Option.{option_map_or}
use Rattle.hg_base.specs.declared.graph.Edge.{Edge}

-- a graph as contracts see it
pub record WeightedGraph : Type 0 where
  pub n : ℕ
  pub areas : List ℕ
  pub edges : List Edge

-- both ends are vertices, and they differ
pub record JoinsTwo (n : ℕ) (e : Edge) : Type 0 where
  pub u : e.u < n
  pub v : e.v < n
  pub apart : e.u ≢ e.v

-- what every graph keeps to
pub record IsGraph (g : WeightedGraph) : Type 0 where
  pub some_vertex : 1 ≤ g.n
  pub vertices : g.n ≤ 1048576
  pub one_area_each : length g.areas ≡ g.n
  pub positive_areas : All (λ a. 1 ≤ a) g.areas
  pub small_areas : All (λ a. a ≤ 4096) g.areas
  pub edges : length g.edges ≤ 4194304
  pub ends : All (JoinsTwo g.n) g.edges

-- each weight is a number of 32 bits
abbrev pub AreLight : List Edge → Type 0
AreLight edges = All (λ e. e.w < 2 ^ 32) edges

-- the graph whose areas are all 1
abbrev pub with_unit_areas : ℕ → List Edge → WeightedGraph
with_unit_areas n edges = record { n = n; areas = replicate n 1; edges = edges }

-- the weight of edge number e, or 0 where there is no such edge
abbrev pub weight : WeightedGraph → ℕ → ℕ
weight g e = option_map_or (λ x. x.w) (slice_get g.edges e) 0

-- the ends of edge number e, or 0 where there is no such edge
abbrev pub first_end : WeightedGraph → ℕ → ℕ
first_end g e = option_map_or (λ x. x.u) (slice_get g.edges e) 0

abbrev pub second_end : WeightedGraph → ℕ → ℕ
second_end g e = option_map_or (λ x. x.v) (slice_get g.edges e) 0
