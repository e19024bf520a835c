-- The edges by persistence join the ends of each edge of a graph.
use Rattle.std.proofs.Common.{◌≡◌, ℕ, zero, suc, ◌+◌, ◌<◌, ◌≤◌, true, inl, inr, ap, arith, [], ◌∷◌, length}
use Rattle.std.specs.Prelude.{not}
use Rattle.std.proofs.lemmas.Bool.{both_ways, cases_Bool, true_from_ne_false}
use Rattle.edge_laws.specs.Edges.{ListedEdge, EdgeList, below, is_joining, joined, joins}
use Rattle.hg_base.specs.Lists.{IsIn}
use Rattle.hg_base.specs.Graph.{WeightedGraph, first_end, second_end}
use Rattle.edge_laws.specs.Rank.{listed, rank, ranked}
use Rattle.edge_laws.specs.Saliency.{at_most}
use Rattle.edge_laws.proofs.Members.{IsIn-below_kept}
use Rattle.edge_laws.proofs.Ranked.{IsIn-ranked}
use Rattle.edge_laws.proofs.Sets.{IsIn-joins, joined-among}
use Rattle.edge_laws.proofs.Walks.{IsSame-joined, joined-ends}
use Rattle.extinction.specs.HierarchicalWatershed.{by_persistence, persistence_edges}
use Rattle.extinction.specs.Persistence.{persistences_of}
use Rattle.hg_base.specs.declared.kind.Kind.{Kind}
use Rattle.watershed_cut.proofs.JoinedByKind.{joined_into}
use Rattle.watershed_cut.proofs.MinimumByWeight.{at_most-from}
use Rattle.watershed_cut.proofs.Star.{map-in}

-- a weight that no edge of the list is above
pub weight_above : (s : EdgeList) → (k : ℕ) × ((e : ListedEdge) → IsIn e s → e.weight ≤ k)
weight_above [] = (0, λ e i. absurd i)
weight_above (f ∷ s) =
    let rest = weight_above s in (
      f.weight + rest.0,
      λ e i. elim i as (λ _. e.weight ≤ f.weight + rest.0) [
        | inl same ↦ (let w : f.weight ≡ e.weight = ap (λ (x : ListedEdge). x.weight) same in omega arith)
        | inr later ↦ (let q : e.weight ≤ rest.0 = rest.1 e later in omega arith)
      ],
    )

-- what joins the ends of all joining edges joins those of all edges
pub joins-enough : (s t : EdgeList) → ((e : ListedEdge) → IsIn e (joins s) → joined t e.u e.v ≡ true) → (r : ℕ) (f : ListedEdge) → IsIn f s → f.rank < r → joined t f.u f.v ≡ true
joins-enough s t keep zero f i low = absurd (omega arith)
joins-enough s t keep (suc r) f i low = elim (cases_Bool (is_joining s f)) [
  | inl own ↦ keep f (IsIn-joins s f i own)
  | inr other ↦
      let before : joined (below s f.rank) f.u f.v ≡ true = true_from_ne_false (joined (below s f.rank) f.u f.v) (λ no'. both_ways _ other (ap not no')) in
      joined_into (below s f.rank) (joined t) (IsSame-joined t) (λ e m. let p = IsIn-below_kept e s f.rank m in joins-enough s t keep r e p.0 (let q = p.1 in omega arith)) f.u f.v before
]

-- the edges by persistence join the ends of each edge of the graph
hierarchy-joins : (g : WeightedGraph) (kind : Kind) (f : ListedEdge) → IsIn f (ranked g) → joined (persistence_edges (ranked g) (persistences_of g kind)) f.u f.v ≡ true
hierarchy-joins g kind f i =
    let s = ranked g in
    let p = persistences_of g kind in
    joins-enough s (persistence_edges s p) (λ e m. joined-ends (persistence_edges s p) (by_persistence s p e) (map-in (by_persistence s p) e (joins s) m)) (suc f.rank) f i (omega arith)

-- so do those of some weight
pub hierarchy-light : (g : WeightedGraph) (kind : Kind) (e : ℕ) → e < length g.edges →
    joined (at_most (persistence_edges (ranked g) (persistences_of g kind)) (weight_above (persistence_edges (ranked g) (persistences_of g kind))).0) (first_end g e) (second_end g e) ≡ true
hierarchy-light g kind e h =
    let s = persistence_edges (ranked g) (persistences_of g kind) in
    let top = weight_above s in
    joined-among s (at_most s top.0) (first_end g e) (second_end g e) (λ f i. at_most-from s top.0 f i (top.1 f i)) (hierarchy-joins g kind (listed g (rank g e) e) (IsIn-ranked g e h))
