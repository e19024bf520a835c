-- What a tree, attributes and minima of one graph keep to.
use Rattle.std.proofs.Common.{◌≡◌, sym, ◌∙◌, ap, subst, length}
use Rattle.std.proofs.lemmas.List.FromFn.{length-map-range_with_len}
use Rattle.hg_base.specs.Graph.{WeightedGraph}
use Rattle.tree_laws.specs.Tree.{ParentTree, graph_tree}
use Rattle.attributes.specs.Attributes.{AttributeLists, area_of, vertices_below}
use Rattle.watershed_cut.specs.MinimumLabels.{LabelledMinima, minima_of}
use Rattle.extinction.specs.Values.{attribute_values, AreOf, AreOfOne}
use Rattle.extinction.specs.Persistence.{persistences, persistences_of}
use Rattle.extinction.specs.Survivors.{extinctions, extinctions_of}
use Rattle.extinction.specs.NodeSurvivors.{HasTwoEach}
use Rattle.hg_base.specs.declared.kind.Kind.{Kind}
use Rattle.extinction.proofs.TreeFacts.{inner-two}

pub one-two : (t : ParentTree) (a : AttributeLists) (m : LabelledMinima) → AreOfOne t a m → HasTwoEach t
one-two t a m o = subst HasTwoEach (sym o.1.tree) (λ i inner hi. inner-two o.0 o.1.graph i inner hi)

pub one-areas : (t : ParentTree) (a : AttributeLists) (m : LabelledMinima) → AreOfOne t a m → length a.areas ≡ length t.parents
one-areas t a m o =
    ap (λ (l : AttributeLists). length l.areas) o.1.attributes
    ∙ length-map-range_with_len (λ i. area_of o.0 (vertices_below (graph_tree o.0) i)) 0 (length (graph_tree o.0).parents)
    ∙ ap (λ (r : ParentTree). length r.parents) (sym o.1.tree)

pub persistences-graph : (g : WeightedGraph) (t : ParentTree) (a : AttributeLists) (m : LabelledMinima) (kind : Kind) → AreOf g t a m → persistences t m (attribute_values kind a) ≡ persistences_of g kind
persistences-graph g t a m kind o =
    ap (λ (r : ParentTree). persistences r m (attribute_values kind a)) o.tree
    ∙ ap (λ (n : LabelledMinima). persistences (graph_tree g) n (attribute_values kind a)) o.minima
    ∙ ap (λ (l : AttributeLists). persistences (graph_tree g) (minima_of g) (attribute_values kind l)) o.attributes

pub extinctions-graph : (g : WeightedGraph) (t : ParentTree) (a : AttributeLists) (m : LabelledMinima) (kind : Kind) → AreOf g t a m → extinctions t m (attribute_values kind a) ≡ extinctions_of g kind
extinctions-graph g t a m kind o =
    ap (λ (r : ParentTree). extinctions r m (attribute_values kind a)) o.tree
    ∙ ap (λ (n : LabelledMinima). extinctions (graph_tree g) n (attribute_values kind a)) o.minima
    ∙ ap (λ (l : AttributeLists). extinctions (graph_tree g) (minima_of g) (attribute_values kind l)) o.attributes
