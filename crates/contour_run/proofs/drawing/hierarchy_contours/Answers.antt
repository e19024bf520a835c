use Rattle.std.proofs.Common.{◌≡◌, ℕ, List, length, ap, ◌∙◌, subst, sym}
use Rattle.hg_base.specs.Graph.{WeightedGraph}
use Rattle.saliency.specs.Values.{AreLowestAltitudes}
use Rattle.extinction.specs.HierarchicalWatershed.{hierarchical_of}
use Rattle.contour_run.proofs.drawing.hierarchy_contours.Goals as goal

pub draw_saliencies-requires-clause-one_each : goal.draw_saliencies-requires-clause-one_each
draw_saliencies-requires-clause-one_each g c κs within = ap length c.deref.ensures.value ∙ c.in_ok-values.ensures.one_each ∙ ap (λ (h : WeightedGraph). length h.edges) c.requires.graph

pub returns : goal.returns
returns g c =
    let tree = hierarchical_of c.args.graph.now c.args.kind in
    c.draw_saliencies.ensures tree
    (subst (λ (h : WeightedGraph). AreLowestAltitudes h tree c.deref.result.now) c.requires.graph
    (subst (λ (vs : List ℕ). AreLowestAltitudes c.args.graph.now tree vs) (sym c.deref.ensures.value) c.in_ok-values.ensures))
