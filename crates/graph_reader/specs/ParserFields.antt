-- What the fields of a parser stand for, and what they keep to.
use Rattle.std.specs.Prelude.{◌≡◌, ◌≢◌, ◌<◌, ◌≤◌, true, [], length, All, vec_capacity}
use Rattle.hg_base.specs.Graph.{JoinsTwo}
use Rattle.graph_reader.specs.declared.parser.Stage.{Stage}
use Rattle.graph_reader.specs.declared.parser.Stage.TheVariants as stages
use Rattle.graph_reader.specs.declared.parser.Parser.TheInside.{Inside}
use Rattle.graph_reader.specs.Parsing.{Parsing}

abbrev pub parsing_of : Inside → Parsing
parsing_of p = record { stage = p.stage; with_areas = p.with_areas; n = p.n; m = p.m; areas = p.areas.items; edges = p.edges.items }

-- the areas and edges that have been read are lawful, and there is room for all edges
pub record IsSized (p : Inside) : Type 0 where
  pub some_vertex : 1 ≤ p.n
  pub vertices : p.n ≤ 1048576
  pub edges : p.m ≤ 4194304
  pub edges_room : p.m ≤ vec_capacity p.edges
  pub edges_so_far : length p.edges.items ≤ p.m
  pub ends : All (JoinsTwo p.n) p.edges.items
  pub positive_areas : All (λ a. 1 ≤ a) p.areas.items
  pub small_areas : All (λ a. a ≤ 4096) p.areas.items

-- areas are being read, before any edge
pub record ReadsAreas (p : Inside) : Type 0 where
  pub sized : IsSized p
  pub with_areas : p.with_areas ≡ true
  pub areas_room : p.n ≤ vec_capacity p.areas
  pub areas_left : length p.areas.items < p.n
  pub no_edges : p.edges.items ≡ []

-- all areas have been read
pub record ReadsEdges (p : Inside) : Type 0 where
  pub sized : IsSized p
  pub areas : p.with_areas ≡ true → length p.areas.items ≡ p.n

-- part of an edge has been read
pub record ReadsEdge (p : Inside) : Type 0 where
  pub edges : ReadsEdges p
  pub edge_left : length p.edges.items < p.m

-- what the fields keep to
abbrev pub KeepsAt : Stage → Inside → Type 0
KeepsAt stages.FirstWord p = p.areas.items ≡ []
KeepsAt stages.Vertices p = p.areas.items ≡ []
KeepsAt stages.Edges p = (p.areas.items ≡ []) × (1 ≤ p.n) × (p.n ≤ 1048576)
KeepsAt stages.Area p = ReadsAreas p
KeepsAt stages.FirstEnd p = ReadsEdges p
KeepsAt (stages.SecondEnd u) p = ReadsEdge p × (u < p.n)
KeepsAt (stages.Weight u v) p = ReadsEdge p × (u < p.n) × (v < p.n) × (u ≢ v)
KeepsAt (stages.Faulty f) p = Unit {0}
KeepsAt stages.OutOfMemory p = Unit {0}

abbrev pub Keeps : Inside → Type 0
Keeps p = KeepsAt p.stage p
