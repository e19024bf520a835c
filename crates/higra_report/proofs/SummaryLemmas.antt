-- The numbers of a summary.
use Rattle.std.proofs.Common.{◌≡◌, ℕ, ◌+◌, ◌<◌, ◌≤◌, inl, refl, sym, ap, ◌∙◌, arith, List, [], ◌∷◌, get_or, length, take, take_all}
use Rattle.std.specs.Prelude.{fold, max, nat_le, sum}
use Rattle.std.proofs.lemmas.Bool.{le-leb}
use Rattle.std.proofs.lemmas.List.FromFn.{get_or-map-range_with_len, length-map-range_with_len}
use Rattle.std.proofs.lemmas.List.Sums.{fold_more, sum_by_more}
use Rattle.std.proofs.lemmas.Option.{unwrap_or-slice_get}
use Rattle.edge_laws.specs.Edges.{ListedEdge, Joined}
use Rattle.hg_base.specs.Graph.{WeightedGraph, first_end, second_end, weight}
use Rattle.edge_laws.specs.Rank.{listed, rank, ranked}
use Rattle.edge_laws.specs.Saliencies.{saliencies, saliency}
use Rattle.edge_laws.specs.Saliency.{at_most}
use Rattle.tree_laws.specs.Tree.{ParentTree, altitude}
use Rattle.hg_base.proofs.Lists.{IsIn-filter}
use Rattle.edge_laws.proofs.Ranked.{IsIn-ranked}
use Rattle.edge_laws.proofs.Saliencies.{saliency-is}
use Rattle.partition_tree.specs.TreeLists.{IsWellFormed, nodes}
use Rattle.higra_report.specs.Summary.{greatest}

-- the greatest altitude up to the next node
pub greatest_more : (t : ParentTree) (i k g : ℕ) → IsWellFormed t → i < nodes t → k ≡ altitude t i → g ≡ greatest (take i t.altitudes) → max g k ≡ greatest (take (i + 1) t.altitudes)
greatest_more t i k g forest low own so_far =
    let each = forest.one_altitude_each in
    let within : i < length t.altitudes = omega (arith, each, low) in
    let next : fold max 0 (take (i + 1) t.altitudes) ≡ max (fold max 0 (take i t.altitudes)) (get_or t.altitudes i 0) = fold_more max 0 t.altitudes i 0 within in
    let last : max g k ≡ max (fold max 0 (take i t.altitudes)) (get_or t.altitudes i 0) = ap (λ (x : ℕ). max x k) so_far ∙ ap (λ (x : ℕ). max (fold max 0 (take i t.altitudes)) x) (own ∙ unwrap_or-slice_get t.altitudes i 0) in
    last ∙ sym next

-- and of all
pub greatest_all : (t : ParentTree) (i g : ℕ) → IsWellFormed t → nodes t ≤ i → g ≡ greatest (take i t.altitudes) → g ≡ greatest t.altitudes
greatest_all t i g forest end so_far =
    let each = forest.one_altitude_each in
    let long : length t.altitudes ≤ i = omega (arith, each, end) in
    so_far ∙ ap greatest (take_all i t.altitudes long)

-- the sum up to the next number
pub total_more : (xs : List ℕ) (i v s : ℕ) → i < length xs → v ≡ get_or xs i 0 → s ≡ sum (take i xs) → s + v ≡ sum (take (i + 1) xs)
total_more xs i v s h own so_far = let more = sum_by_more (λ (x : ℕ). x) xs i 0 h in ap (λ (k : ℕ). k + v) so_far ∙ ap (λ (k : ℕ). sum (take i xs) + k) own ∙ sym more

-- and of all
pub total_all : (xs : List ℕ) (i s : ℕ) → length xs ≤ i → s ≡ sum (take i xs) → s ≡ sum xs
total_all xs i s long so_far = so_far ∙ ap sum (take_all i xs long)

-- there is a saliency for each edge
pub values_length : (g : WeightedGraph) (values : List ℕ) → values ≡ saliencies g → length values ≡ length g.edges
values_length g values are = ap (λ (xs : List ℕ). length xs) are ∙ length-map-range_with_len (saliency g) 0 (length g.edges)

-- an edge of some weight joins its ends
own-joined : (g : WeightedGraph) (e : ℕ) → e < length g.edges → Joined (at_most (ranked g) (weight g e)) (first_end g e) (second_end g e)
own-joined g e h =
    (second_end g e ∷ [], ((listed g (rank g e) e, (IsIn-filter (λ (f : ListedEdge). nat_le f.weight (weight g e)) (listed g (rank g e) e) (ranked g) (le-leb (weight g e) (weight g e) (omega arith)) (IsIn-ranked g e h), inl (refl, refl))), refl))

-- so its saliency is no greater
pub value_small : (g : WeightedGraph) (values : List ℕ) (e : ℕ) → values ≡ saliencies g → e < length g.edges → get_or values e 0 ≤ weight g e
value_small g values e are h =
    let own : saliency g e ≤ weight g e = (saliency-is g e h).least (weight g e) (own-joined g e h) in
    let is : get_or values e 0 ≡ saliency g e = ap (λ (xs : List ℕ). get_or xs e 0) are ∙ get_or-map-range_with_len (saliency g) 0 (length g.edges) e e 0 h (omega arith) in
    omega (arith, own, is)
