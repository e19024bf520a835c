-- A weighed graph is a graph.
use Rattle.std.proofs.Common.{◌≡◌, ℕ, ap, subst, sym, ◌∙◌, arith, List, map}
use Rattle.std.proofs.lemmas.List.{length-map}
use Rattle.std.proofs.lemmas.List.Elements.{All-map}
use Rattle.hg_base.specs.declared.graph.Edge.{Edge}
use Rattle.hg_base.specs.Graph.{WeightedGraph, IsGraph, JoinsTwo}
use Rattle.component_tree.specs.declared.side.Side.{Side}
use Rattle.component_tree.specs.Weighed.{weighed_edge, weighed_graph}

-- the weighed graph keeps to what the graph keeps to
pub graph-weighed : (side : Side) (values : List ℕ) (g : WeightedGraph) → IsGraph g → IsGraph (weighed_graph side values g)
graph-weighed side values g is = record {
  some_vertex = is.some_vertex;
  vertices = is.vertices;
  one_area_each = is.one_area_each;
  positive_areas = is.positive_areas;
  small_areas = is.small_areas;
  edges = let l = length-map g.edges (weighed_edge side values) in let few = is.edges in omega (arith, l, few);
  ends = All-map (JoinsTwo g.n) (weighed_edge side values) g.edges (λ k d lt. (let j = is.ends k d lt in record { u = j.u; v = j.v; apart = j.apart }));
}

graph_with : ℕ → List ℕ → List Edge → WeightedGraph
graph_with n areas edges = record { n = n; areas = areas; edges = edges }

-- so does what is equal to it, part for part
pub graph-made : (side : Side) (values : List ℕ) (g : WeightedGraph) (n : ℕ) (areas : List ℕ) (edges : List Edge) → IsGraph g → n ≡ g.n → areas ≡ g.areas → edges ≡ map (weighed_edge side values) g.edges →
    IsGraph (record { n = n; areas = areas; edges = edges })
unfolding graph_with
graph-made side values g n areas edges is same_n same_areas weighed =
    subst IsGraph
    (sym (ap (λ (x : ℕ). graph_with x areas edges) same_n ∙ ap (λ (x : List ℕ). graph_with g.n x edges) same_areas ∙ ap (λ (x : List Edge). graph_with g.n g.areas x) weighed))
    (graph-weighed side values g is)
