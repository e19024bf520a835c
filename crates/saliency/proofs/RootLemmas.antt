-- Roots are where paths stop that stop nowhere before, and what roots say of two nodes.
use Rattle.std.proofs.Common.{◌≡◌, ℕ, ◌<◌, false, inl, inr, sym, ◌∙◌, subst, List, length, get_or}
use Rattle.std.specs.Prelude.{◌↔◌, Some, slice_get}
use Rattle.std.specs.List.{range_with_len}
use Rattle.std.proofs.lemmas.Bool.{true≢false}
use Rattle.hg_base.specs.declared.graph.Edge.{Edge}
use Rattle.hg_base.specs.Graph.{WeightedGraph, first_end, second_end}
use Rattle.tree_laws.specs.Tree.{ParentTree}
use Rattle.tree_laws.specs.Levels.{IsClimbing}
use Rattle.tree_laws.proofs.Climbs.{ancestor-root, above-either}
use Rattle.partition_tree.specs.TreeLists.{nodes}
use Rattle.partition_tree.specs.NearestStops.{AreOfStops}
use Rattle.partition_tree.specs.Paths.{IsRootOf, ShareRoot}
use Rattle.partition_tree.proofs.NearestStops.{stop-numbers}
use Rattle.saliency.specs.Roots.{AreRoots}
use Rattle.saliency.proofs.ValueLemmas.{first-is, second-is}

-- paths that stop nowhere before end in the roots
pub roots-of_stops : (t : ParentTree) → IsClimbing t → (own roots : List ℕ) → own ≡ range_with_len 0 (nodes t) → AreOfStops t (λ i. false) own roots → AreRoots t roots
roots-of_stops t c own roots numbers a = record {
  one_each = a.one_each;
  each = λ i h. (let n = stop-numbers t c (λ j. false) own roots numbers a i h in
      record { above = n.above; root = elim n.stop [ inl on ↦ absurd (true≢false (sym on)) | inr root ↦ root ] });
}

-- a node has one root
root-one : (t : ParentTree) (x r q : ℕ) → IsRootOf t x r → IsRootOf t x q → r ≡ q
root-one t x r q h k =
    elim (above-either t r q x h.above k.above) [
      | inl over ↦ sym over.1 ∙ ancestor-root t q k.root over.0
      | inr under ↦ sym (sym under.1 ∙ ancestor-root t r h.root under.0)
    ]

-- two nodes share a root exactly where their roots are one
pub roots-tell : (t : ParentTree) (roots : List ℕ) → AreRoots t roots → (a b : ℕ) → a < length t.parents → b < length t.parents → (get_or roots a 0 ≡ get_or roots b 0) ↔ ShareRoot t a b
roots-tell t roots are a b ha hb = (
  λ same. (get_or roots a 0, (are.each a ha, subst (IsRootOf t b) (sym same) (are.each b hb))),
  λ share. root-one t a (get_or roots a 0) share.0 (are.each a ha) share.1.0 ∙ sym (root-one t b (get_or roots b 0) share.0 (are.each b hb) share.1.1),
)

-- and so do the ends of an edge
pub ends-tell : (g : WeightedGraph) (t : ParentTree) (roots : List ℕ) (e : ℕ) (x : Edge) → AreRoots t roots → slice_get g.edges e ≡ Some x → x.u < length t.parents → x.v < length t.parents →
    (get_or roots x.u 0 ≡ get_or roots x.v 0) ↔ ShareRoot t (first_end g e) (second_end g e)
ends-tell g t roots e x are at hu hv = rw (first-is g e x at, second-is g e x at) (roots-tell t roots are x.u x.v hu hv)
