-- The ranked edges of a graph: different ranks, ends among the vertices, weights that don't fall.
use Rattle.std.proofs.Common.{◌≡◌, ℕ, zero, suc, ◌+◌, ◌<◌, ◌≤◌, sym, ◌∙◌, subst, ap, arith, length, map}
use Rattle.std.specs.Prelude.{Option, Some, slice_get}
use Rattle.std.specs.Option.{option_map_or}
use Rattle.std.specs.List.{range_with_len}
use Rattle.std.proofs.lemmas.Option.{get_or_from_slice_get}
use Rattle.hg_base.specs.declared.graph.Edge.{Edge}
use Rattle.hg_base.specs.Graph.{WeightedGraph, IsGraph, JoinsTwo, first_end, second_end, weight}
use Rattle.edge_laws.specs.Edges.{ListedEdge, AreApart, AreWithin}
use Rattle.hg_base.specs.Lists.{IsIn}
use Rattle.edge_laws.specs.Rank.{number_at, rank, listed, ranked}
use Rattle.edge_laws.specs.Saliency.{AreByWeight}
use Rattle.hg_base.proofs.Lists.{slice_get-some, IsIn-values, IsIn-value}
use Rattle.edge_laws.proofs.Ranks.{number_at-below, number_at-rank, rank-below, weight-rises}

-- an edge of the ranked list, by its rank
pub ranked-at : (g : WeightedGraph) (e : ListedEdge) → IsIn e (ranked g) → (e.rank < length g.edges) × (e ≡ listed g e.rank (number_at g e.rank))
ranked-at g e i =
    let p = IsIn-values (λ k. listed g k (number_at g k)) 0 (length g.edges) e i in
    let same : p.0 ≡ e.rank = ap (λ (x : ListedEdge). x.rank) p.1.1.1 in (
      (let high : p.0 < 0 + length g.edges = p.1.1.0 in omega arith),
      sym p.1.1.1 ∙ ap (λ (k : ℕ). listed g k (number_at g k)) same,
    )

-- values at different numbers have different ranks
apart-values : (g : WeightedGraph) (a n : ℕ) → AreApart (map (λ k. listed g k (number_at g k)) (range_with_len a n))
apart-values g a zero = tt
apart-values g a (suc n) = (
  λ f i r. (let p = IsIn-values (λ k. listed g k (number_at g k)) (a + 1) n f i in
      let same : p.0 ≡ f.rank = ap (λ (x : ListedEdge). x.rank) p.1.1.1 in
      let low : a + 1 ≤ p.0 = p.1.0 in omega arith),
  apart-values g (a + 1) n,
)

-- no two edges of a graph have one rank
pub AreApart-ranked : (g : WeightedGraph) → AreApart (ranked g)
AreApart-ranked g = apart-values g 0 (length g.edges)

-- the edge with a number below the count is there, and joins two vertices
pub edge-there : (g : WeightedGraph) → IsGraph g → (e : ℕ) → e < length g.edges → (x : Edge) × ((slice_get g.edges e ≡ Some x) × JoinsTwo g.n x)
edge-there g h e lt =
    let found = slice_get-some g.edges e lt in
    (found.0, (found.1, subst (JoinsTwo g.n) (get_or_from_slice_get g.edges e found.0 found.0 found.1) (h.ends e found.0 lt)))

-- the ends of an edge of a graph are vertices
pub ends-within : (g : WeightedGraph) → IsGraph g → (e : ℕ) → e < length g.edges → (first_end g e < g.n) × (second_end g e < g.n)
ends-within g h e lt =
    let there = edge-there g h e lt in (
      subst (λ (o : Option Edge). option_map_or (λ x. x.u) o 0 < g.n) (sym there.1.0) there.1.1.u,
      subst (λ (o : Option Edge). option_map_or (λ x. x.v) o 0 < g.n) (sym there.1.0) there.1.1.v,
    )

-- the ends of the ranked edges are vertices
pub AreWithin-ranked : (g : WeightedGraph) → IsGraph g → AreWithin g.n (ranked g)
AreWithin-ranked g h e i =
    let at = ranked-at g e i in
    let low : e.rank < length g.edges = at.0 in
    let ends = ends-within g h (number_at g e.rank) (number_at-below g e.rank (omega arith)) in
    subst (λ (x : ListedEdge). (x.u < g.n) × (x.v < g.n)) (sym at.1) ends

-- the weights of the ranked edges don't fall
pub AreByWeight-ranked : (g : WeightedGraph) → AreByWeight (ranked g)
AreByWeight-ranked g e f i j lt =
    let ae = ranked-at g e i in
    let af = ranked-at g f j in
    let we : e.weight ≡ weight g (number_at g e.rank) = ap (λ (x : ListedEdge). x.weight) ae.1 in
    let wf : f.weight ≡ weight g (number_at g f.rank) = ap (λ (x : ListedEdge). x.weight) af.1 in
    let rises : weight g (number_at g e.rank) ≤ weight g (number_at g f.rank) = weight-rises g e.rank f.rank (omega arith) af.0 in
    omega arith

-- each edge of a graph is in its ranked list
pub IsIn-ranked : (g : WeightedGraph) (e : ℕ) → e < length g.edges → IsIn (listed g (rank g e) e) (ranked g)
IsIn-ranked g e lt =
    subst (λ (n : ℕ). IsIn (listed g (rank g e) n) (ranked g)) (number_at-rank g e lt)
    (IsIn-value (λ k. listed g k (number_at g k)) 0 (length g.edges) (rank g e) (omega arith) (let r = rank-below g e lt in omega (arith, r)))
