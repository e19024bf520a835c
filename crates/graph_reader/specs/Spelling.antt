-- How a graph is spelled, as tokens.
use Rattle.std.specs.Prelude.{◌≡◌, ℕ, ◌≤◌, Bool, true, false, List, [], ◌∷◌, ◌++◌, length, replicate, map}
use Rattle.std.specs.List.{flat_map, AllByRecursion}
use Rattle.hg_base.specs.Graph.{WeightedGraph, JoinsTwo}
use Rattle.hg_base.specs.declared.graph.Edge.{Edge}
use Rattle.input_tokens.specs.declared.token.Token.{Token}
use Rattle.input_tokens.specs.declared.token.Token.TheVariants.{Graph, GraphWithAreas, Number}
use Rattle.input_tokens.specs.Tokens.{tokens}

-- two ends and a weight
abbrev pub edge_tokens : Edge → List Token
edge_tokens e = Number e.u ∷ Number e.v ∷ Number e.w ∷ []

abbrev pub area_tokens : ℕ → List Token
area_tokens a = Number a ∷ []

-- the word, the two counts, the areas where the word asks for them, and the edges
abbrev pub graph_tokens : Bool → WeightedGraph → List Token
graph_tokens false g = Graph ∷ Number g.n ∷ Number (length g.edges) ∷ flat_map edge_tokens g.edges
graph_tokens true g = GraphWithAreas ∷ Number g.n ∷ Number (length g.edges) ∷ (flat_map area_tokens g.areas ++ flat_map edge_tokens g.edges)

-- an edge that an edge list can have
pub record IsEdge (n : ℕ) (e : Edge) : Type 0 where
  pub joins : JoinsTwo n e
  pub weight : e.w ≤ 4294967295

-- the bytes spell the graph: with_areas says by which word
pub record Spells (with_areas : Bool) (bytes : List ℕ) (g : WeightedGraph) : Type 0 where
  pub some_vertex : 1 ≤ g.n
  pub vertices : g.n ≤ 1048576
  pub edges : length g.edges ≤ 4194304
  pub ends : AllByRecursion (IsEdge g.n) g.edges
  pub given : with_areas ≡ true → (length g.areas ≡ g.n) × AllByRecursion (λ a. (1 ≤ a) × (a ≤ 4096)) g.areas
  pub not_given : with_areas ≡ false → g.areas ≡ replicate g.n 1
  pub spelling : map (λ t. t.token) (tokens bytes) ≡ graph_tokens with_areas g
