-- The lowest common ancestor of two leaves: the first edge to join them made it, and its altitude is the least weight that joins.
use Rattle.std.proofs.Common.{◌≡◌, ◌≢◌, ℕ, ◌+◌, ◌<◌, ◌≤◌, true, ◌⊎◌, inl, inr, refl, sym, ◌∙◌, subst, ap, arith, [], length, map}
use Rattle.std.specs.Prelude.{Option, replicate, unwrap_or}
use Rattle.std.proofs.lemmas.Bool.{cases_order}
use Rattle.std.proofs.lemmas.Bool.Decides.{eqb_tells}
use Rattle.std.proofs.lemmas.List.{length-replicate}
use Rattle.edge_laws.specs.Edges.{ListedEdge, EdgeList, AreApart, joined, below, joins}
use Rattle.hg_base.specs.Lists.{IsIn}
use Rattle.tree_laws.specs.Tree.{altitude, ancestor, place, tree_of, IsLowestAbove, graph_tree}
use Rattle.edge_laws.specs.Saliency.{AreByWeight, IsLeastJoining, MeetFirst, IsSaliency}
use Rattle.edge_laws.proofs.Walks.{joined-walk, Joined-joined}
use Rattle.hg_base.proofs.Lists.{slice_get-front, slice_get-back, slice_get-mapped, slice_get-replicated}
use Rattle.edge_laws.proofs.Sets.{IsIn-joins, IsRising-joins}
use Rattle.edge_laws.proofs.Fronts.{joined-meet, MeetBelow}
use Rattle.edge_laws.proofs.Leaving.{leaves}
use Rattle.edge_laws.proofs.Rises.{rising-fewer}
use Rattle.tree_laws.proofs.Nodes.{joins-at, place-one}
use Rattle.tree_laws.proofs.Paths.{IsOnPath, IsMadeBy, IsIn-joins_made, ancestor-path, made-above}
use Rattle.edge_laws.proofs.Meeting.{chain-leaving, joined-by, meeting-weight}
use Rattle.hg_base.specs.Graph.{WeightedGraph, IsGraph, first_end, second_end}
use Rattle.edge_laws.specs.Rank.{ranked}
use Rattle.edge_laws.proofs.Ranked.{AreApart-ranked, AreByWeight-ranked, ends-within}

-- the altitude of an inner node is the weight of the edge that made it
pub altitude-inner : (n : ℕ) (s : EdgeList) → AreApart s → (e : ListedEdge) → IsIn e (joins s) → altitude (tree_of n s) (n + place s e) ≡ e.weight
altitude-inner n s h e i =
    ap (λ (o : Option ℕ). unwrap_or o 0)
    (slice_get-back (replicate n 0) (map (λ f. f.weight) (joins s)) (place s e) (n + place s e) (let q = length-replicate {A = ℕ} n 0 in omega (arith, q))
    ∙ slice_get-mapped (λ (f : ListedEdge). f.weight) (joins s) (place s e) e (joins-at s h e i))

-- a leaf has altitude 0
pub altitude-leaf : (n : ℕ) (s : EdgeList) (x : ℕ) → x < n → altitude (tree_of n s) x ≡ 0
altitude-leaf n s x lt =
    ap (λ (o : Option ℕ). unwrap_or o 0)
    (slice_get-front (replicate n 0) (map (λ f. f.weight) (joins s)) x (let q = length-replicate {A = ℕ} n 0 in omega (arith, q))
    ∙ slice_get-replicated 0 n x lt)

-- the joining edge of lower rank has the lower place
pub place-less : (s : EdgeList) → AreApart s → (g e : ListedEdge) → IsIn g (joins s) → IsIn e (joins s) → g.rank < e.rank → place s g < place s e
place-less s h g e i j lt = rising-fewer (joins s) (IsRising-joins s h) g e i j lt

-- e, whose node is the lowest above a and b, is the first edge to join them
lowest-made : (n : ℕ) (s : EdgeList) → AreApart s → (a b i : ℕ) → a < n → b < n → a ≢ b → IsLowestAbove (tree_of n s) a b i →
    (e : ListedEdge) → IsMadeBy n s a i e → leaves s b e ≡ true → MeetFirst s a b e
lowest-made n s h a b i la lb other low e made hb = record {
  member = made.member;
  behind = λ k lt. Joined-joined (below s k) a b (joined-by s a b e k made.member made.leaving hb lt);
  before = λ k j. (elim (cases_order e.rank k) [
    | inl level ↦ absurd (too_early k (joined-walk (below s k) a j.0 b j.1) (omega arith))
    | inr unlike ↦ elim unlike [
      | inl lower ↦ lower
      | inr higher ↦ absurd (too_early k (joined-walk (below s k) a j.0 b j.1) (omega arith))
    ]
  ]);
}
  where
    earlier : (k : ℕ) → k ≤ e.rank → (a ≡ b) ⊎ MeetBelow s k a b → ⊥
    earlier k le (inl same) = other same
    earlier k le (inr m) =
        let ha = chain-leaving s a m.edge m.first in
        let hb' = chain-leaving s b m.edge m.second in
        let above : i ≤ n + place s m.edge = low.lowest (n + place s m.edge) (made-above n s h a la m.edge m.first.member ha) (made-above n s h b lb m.edge m.second.member hb') in
        let lt : m.edge.rank < k = m.low in
        let fewer : place s m.edge < place s e = place-less s h m.edge e
        (IsIn-joins s m.edge m.first.member m.first.joining) (IsIn-joins_made n s a i e made) (omega arith) in
        let node : i ≡ n + place s e = made.node in
        omega arith

    too_early : (k : ℕ) → joined (below s k) a b ≡ true → k ≤ e.rank → ⊥
    too_early k j le = earlier k le (joined-meet s h k a b j)

-- the lowest node above two different leaves is made by the first edge to join them
pub lowest-meets : (n : ℕ) (s : EdgeList) → AreApart s → (a b i : ℕ) → a < n → b < n → a ≢ b → IsLowestAbove (tree_of n s) a b i →
    (e : ListedEdge) × (MeetFirst s a b e × (IsIn e (joins s) × (i ≡ n + place s e)))
lowest-meets n s h a b i la lb other low = go (ancestor-path n s h a la low.first.0) (ancestor-path n s h b lb low.second.0)
  where
    at : (j : ℕ) (x : ℕ) → ancestor (tree_of n s) j x ≡ i → IsOnPath n s x (ancestor (tree_of n s) j x) → IsOnPath n s x i
    at j x eq p = subst (λ (m : ℕ). IsOnPath n s x m) eq p

    both : IsOnPath n s a i → IsOnPath n s b i → (e : ListedEdge) × (MeetFirst s a b e × (IsIn e (joins s) × (i ≡ n + place s e)))
    both (inl p) (inl q) = absurd (other (sym p ∙ q))
    both (inl p) (inr q) = absurd (let r : i ≡ n + place s q.0 = q.1.node in omega arith)
    both (inr p) (inl q) = absurd (let r : i ≡ n + place s p.0 = p.1.node in omega arith)
    both (inr p) (inr q) =
        let same : q.0 ≡ p.0 = place-one s h q.0 p.0 (IsIn-joins_made n s b i q.0 q.1) (IsIn-joins_made n s a i p.0 p.1)
        (let r : i ≡ n + place s p.0 = p.1.node in let t : i ≡ n + place s q.0 = q.1.node in omega arith) in (
          p.0,
          (
            lowest-made n s h a b i la lb other low p.0 p.1 (subst (λ (g : ListedEdge). leaves s b g ≡ true) same q.1.leaving),
            (IsIn-joins_made n s a i p.0 p.1, p.1.node),
          ),
        )

    go : IsOnPath n s a (ancestor (tree_of n s) low.first.0 a) → IsOnPath n s b (ancestor (tree_of n s) low.second.0 b) → (e : ListedEdge) × (MeetFirst s a b e × (IsIn e (joins s) × (i ≡ n + place s e)))
    go p q = both (at low.first.0 a low.first.1 p) (at low.second.0 b low.second.1 q)

-- The altitude of the lowest node above two leaves is the least k such that the edges of weight at most k join them.
pub lowest-weight : (n : ℕ) (s : EdgeList) → AreApart s → AreByWeight s → (a b i : ℕ) → a < n → b < n → IsLowestAbove (tree_of n s) a b i →
    IsLeastJoining s a b (altitude (tree_of n s) i)
lowest-weight n s h by a b i la lb low =
    elim (eqb_tells a b) [
      | inl same ↦ subst (λ (c : ℕ). IsLeastJoining s a c (altitude (tree_of n s) i)) same.1 (at_leaf (low.lowest a (0, refl) (0, sym same.1)))
      | inr other ↦ inner other.1
    ]
  where
    at_leaf : i ≤ a → IsLeastJoining s a a (altitude (tree_of n s) i)
    at_leaf le =
        let zero' : altitude (tree_of n s) i ≡ 0 = altitude-leaf n s i (omega arith) in
        subst (λ (k : ℕ). IsLeastJoining s a a k) (sym zero') (record { joins = ([], refl); least = λ j w. omega arith })

    inner : a ≢ b → IsLeastJoining s a b (altitude (tree_of n s) i)
    inner other =
        let m = lowest-meets n s h a b i la lb other low in
        let alt : altitude (tree_of n s) i ≡ m.0.weight = ap (altitude (tree_of n s)) m.1.1.1 ∙ altitude-inner n s h m.0 m.1.1.0 in
        subst (λ (k : ℕ). IsLeastJoining s a b k) (sym alt) (meeting-weight s h by a b m.0 m.1.0)

pub saliency-lowest : (g : WeightedGraph) (e i : ℕ) → IsGraph g → e < length g.edges → IsLowestAbove (graph_tree g) (first_end g e) (second_end g e) i →
    IsSaliency g e (altitude (graph_tree g) i)
saliency-lowest g e i h lt low =
    let ends = ends-within g h e lt in
    lowest-weight g.n (ranked g) (AreApart-ranked g) (AreByWeight-ranked g) (first_end g e) (second_end g e) i ends.0 ends.1 low
