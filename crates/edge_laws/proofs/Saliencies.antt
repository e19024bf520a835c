-- The saliency of an edge is the least number k such that the edges of weight at most k join its ends.
use Rattle.std.proofs.Common.{◌≡◌, ℕ, suc, ◌<◌, true, inl, inr, ◌∙◌, ap, arith, length}
use Rattle.std.specs.Prelude.{Option, unwrap_or, nat_le}
use Rattle.std.proofs.lemmas.Bool.{cases_lt, both_ways, le-leb}
use Rattle.hg_base.specs.Graph.{WeightedGraph, first_end, second_end, weight}
use Rattle.edge_laws.specs.Edges.{ListedEdge, EdgeList, joined}
use Rattle.edge_laws.specs.Rank.{rank, listed, ranked}
use Rattle.edge_laws.specs.Saliency.{at_most, IsLeastJoining, IsSaliency}
use Rattle.edge_laws.specs.Saliencies.{saliency}
use Rattle.hg_base.proofs.Lists.{IsIn-filter}
use Rattle.edge_laws.proofs.Walks.{joined-ends, Joined-joined}
use Rattle.edge_laws.proofs.Drops.{holds}
use Rattle.hg_base.proofs.Leasts.{first_of}
use Rattle.edge_laws.proofs.Ranked.{IsIn-ranked}

-- there is one least number
pub IsLeastJoining-one : (s : EdgeList) (a b j k : ℕ) → IsLeastJoining s a b j → IsLeastJoining s a b k → j ≡ k
IsLeastJoining-one s a b j k p q = omega (arith, p.least k q.joins, q.least j p.joins)

-- the edge joins its ends at its own weight
joined-own : (g : WeightedGraph) (e : ℕ) → e < length g.edges → joined (at_most (ranked g) (weight g e)) (first_end g e) (second_end g e) ≡ true
joined-own g e h =
    let own : ListedEdge = listed g (rank g e) e in
    joined-ends (at_most (ranked g) (weight g e)) own
    (IsIn-filter (λ f. nat_le f.weight (weight g e)) own (ranked g) (le-leb (weight g e) (weight g e) (omega arith)) (IsIn-ranked g e h))

pub saliency-is : (g : WeightedGraph) (e : ℕ) → e < length g.edges → IsSaliency g e (saliency g e)
saliency-is g e h =
    let f = first_of (λ k. joined (at_most (ranked g) k) (first_end g e) (second_end g e)) 0 (suc (weight g e)) (weight g e) (omega arith) (omega arith) (joined-own g e h) in
    let same : saliency g e ≡ f.at = ap (λ (o : Option ℕ). unwrap_or o 0) f.found in record {
      joins = Joined-joined (at_most (ranked g) (saliency g e)) (first_end g e) (second_end g e)
          (ap (λ (k : ℕ). joined (at_most (ranked g) k) (first_end g e) (second_end g e)) same ∙ f.passes);
      least = λ j w. elim (cases_lt j (saliency g e)) [
        | inl low ↦ absurd (both_ways _ (f.before j (omega arith) (omega (arith, same, low))) (holds (at_most (ranked g) j) (first_end g e) (second_end g e) w))
        | inr high ↦ high
      ];
    }

-- what is the saliency is that number
pub saliency-only : (g : WeightedGraph) (e k : ℕ) → e < length g.edges → IsSaliency g e k → k ≡ saliency g e
saliency-only g e k h is = IsLeastJoining-one (ranked g) (first_end g e) (second_end g e) k (saliency g e) is (saliency-is g e h)
