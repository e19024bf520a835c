-- The saliency of an edge for a tree, and for the graph's own tree.
use Rattle.std.proofs.Common.{◌≡◌, ℕ, ◌+◌, ◌<◌, ◌⊎◌, inl, inr, refl, sym, ◌∙◌, subst, ap, arith, List, [], ◌∷◌, ◌++◌, length, length-append, get_or, map}
use Rattle.std.specs.Prelude.{Option, Some, slice_get}
use Rattle.std.specs.List.{range_with_len}
use Rattle.std.specs.Option.{option_map_or}
use Rattle.std.proofs.lemmas.Bool.{cases_eq}
use Rattle.std.proofs.lemmas.List.{get_or_push, get_or_append_left}
use Rattle.std.proofs.lemmas.List.FromFn.{length-map-range_with_len, get_or-map-range_with_len, map-range_with_len_more}
use Rattle.hg_base.specs.declared.graph.Edge.{Edge}
use Rattle.hg_base.specs.Graph.{WeightedGraph, JoinsTwo, first_end, second_end}
use Rattle.edge_laws.specs.Rank.{ranked}
use Rattle.tree_laws.specs.Tree.{ParentTree, altitude, graph_tree, IsLowestAbove}
use Rattle.edge_laws.specs.Saliency.{IsSaliency}
use Rattle.edge_laws.specs.Saliencies.{saliency, saliencies}
use Rattle.tree_laws.proofs.Meeting.{lowest-weight}
use Rattle.edge_laws.proofs.Ranked.{AreApart-ranked, AreByWeight-ranked}
use Rattle.edge_laws.proofs.Saliencies.{saliency-is, saliency-only}
use Rattle.saliency.specs.Values.{IsLowestAltitude, AreLowestAltitudes, AreSaliencies}

-- the ends of an edge that was read
pub first-is : (g : WeightedGraph) (e : ℕ) (x : Edge) → slice_get g.edges e ≡ Some x → first_end g e ≡ x.u
first-is g e x h = ap (λ (o : Option Edge). option_map_or (λ y. y.u) o 0) h

pub second-is : (g : WeightedGraph) (e : ℕ) (x : Edge) → slice_get g.edges e ≡ Some x → second_end g e ≡ x.v
second-is g e x h = ap (λ (o : Option Edge). option_map_or (λ y. y.v) o 0) h

-- the altitude of the lowest node above the ends, in the graph's tree
pub lowest-saliency : (g : WeightedGraph) (e : ℕ) (x : Edge) (t : ParentTree) (i k : ℕ) → slice_get g.edges e ≡ Some x → JoinsTwo g.n x → e < length g.edges → IsLowestAbove t x.u x.v i → k ≡ altitude t i → t ≡ graph_tree g → k ≡ saliency g e
lowest-saliency g e x t i k at ends h low value same =
    let a = first-is g e x at in
    let b = second-is g e x at in
    let low' : IsLowestAbove (graph_tree g) (first_end g e) (second_end g e) i =
    subst (λ (u : ParentTree). IsLowestAbove u (first_end g e) (second_end g e) i) same
    (subst (λ (m : ℕ). IsLowestAbove t m (second_end g e) i) (sym a) (subst (λ (m : ℕ). IsLowestAbove t x.u m i) (sym b) low)) in
    let least = lowest-weight g.n (ranked g) (AreApart-ranked g) (AreByWeight-ranked g) (first_end g e) (second_end g e) i
    (subst (λ (m : ℕ). m < g.n) (sym a) ends.u) (subst (λ (m : ℕ). m < g.n) (sym b) ends.v) low' in
    value ∙ ap (λ (u : ParentTree). altitude u i) same ∙ saliency-only g e (altitude (graph_tree g) i) h least

-- one more edge
pub record AreValuesTo (g : WeightedGraph) (t : ParentTree) (e : ℕ) (values : List ℕ) : Type 0 where
  pub one_each : length values ≡ e
  pub lowest : (j : ℕ) → j < e → IsLowestAltitude t (first_end g j) (second_end g j) (get_or values j 0)
  pub saliencies : t ≡ graph_tree g → values ≡ map (saliency g) (range_with_len 0 e)

pub values_more : (g : WeightedGraph) (t : ParentTree) (e v : ℕ) (values new : List ℕ) → AreValuesTo g t e values → IsLowestAltitude t (first_end g e) (second_end g e) v → (t ≡ graph_tree g → v ≡ saliency g e) →
    new ≡ values ++ v ∷ [] → AreValuesTo g t (e + 1) new
values_more g t e v values new a low own pushed = subst (AreValuesTo g t (e + 1)) (sym pushed) (record {
  one_each = length-append values (v ∷ []) ∙ (let long = a.one_each in omega arith);
  lowest = λ j h. at j (up_to j h);
  saliencies = λ same. ap (λ (xs : List ℕ). xs ++ v ∷ []) (a.saliencies same)
      ∙ ap (λ (x : ℕ). map (saliency g) (range_with_len 0 e) ++ x ∷ []) (own same)
      ∙ sym (map-range_with_len_more (saliency g) 0 e e (omega arith));
})
  where
    up_to : (j : ℕ) → j < e + 1 → (j ≡ e) ⊎ (j < e)
    up_to j h = elim (cases_eq j e) [ inl level ↦ inl level | inr other ↦ inr (grind (arith, h, other)) ]

    at : (j : ℕ) → (j ≡ e) ⊎ (j < e) → IsLowestAltitude t (first_end g j) (second_end g j) (get_or (values ++ v ∷ []) j 0)
    at j (inl level) =
        let last : get_or (values ++ v ∷ []) e 0 ≡ v = get_or_push values v 0 e a.one_each in
        subst (λ (i : ℕ). IsLowestAltitude t (first_end g i) (second_end g i) (get_or (values ++ v ∷ []) i 0)) (sym level)
        (subst (λ (k : ℕ). IsLowestAltitude t (first_end g e) (second_end g e) k) (sym last) low)
    at j (inr lower) =
        subst (λ (k : ℕ). IsLowestAltitude t (first_end g j) (second_end g j) k) (sym (get_or_append_left values (v ∷ []) 0 j (let long = a.one_each in omega arith))) (a.lowest j lower)

-- no edge has its value yet
pub values_first : (g : WeightedGraph) (t : ParentTree) → AreValuesTo g t 0 []
values_first g t = record { one_each = refl; lowest = λ j h. absurd (omega arith); saliencies = λ same. refl }

-- all edges have their values
pub lowest-all : (g : WeightedGraph) (t : ParentTree) (e : ℕ) (values : List ℕ) → e ≡ length g.edges → AreValuesTo g t e values → AreLowestAltitudes g t values
lowest-all g t e values all a = record { one_each = a.one_each ∙ all; each = λ j h. a.lowest j (omega arith) }

pub saliencies-all : (g : WeightedGraph) (t : ParentTree) (e : ℕ) (values : List ℕ) → e ≡ length g.edges → AreValuesTo g t e values → t ≡ graph_tree g → values ≡ saliencies g
saliencies-all g t e values all a same = a.saliencies same ∙ ap (λ (n : ℕ). map (saliency g) (range_with_len 0 n)) all

-- where the list is that of the saliencies, each value is one
pub each-saliency : (g : WeightedGraph) (values : List ℕ) → values ≡ saliencies g → AreSaliencies g values
each-saliency g values same = record {
  one_each = ap (λ (xs : List ℕ). length xs) same ∙ length-map-range_with_len (saliency g) 0 (length g.edges);
  each = λ e h.
      subst (λ (k : ℕ). IsSaliency g e k)
      (sym (ap (λ (xs : List ℕ). get_or xs e 0) same ∙ get_or-map-range_with_len (saliency g) 0 (length g.edges) e e 0 h (omega arith)))
      (saliency-is g e h);
}
