use Rattle.std.proofs.Common.{◌≡◌, ℕ, List, length, ap, ◌∙◌, subst, sym}
use Rattle.hg_base.specs.Graph.{WeightedGraph}
use Rattle.saliency.specs.Values.{AreLowestAltitudes}
use Rattle.contour_map.proofs.drawn.draw_contours.Goals as goal

pub draw_saliencies-requires-clause-one_each : goal.draw_saliencies-requires-clause-one_each
draw_saliencies-requires-clause-one_each g c κs within = ap length c.deref.ensures.value ∙ c.in_ok-values.ensures.lowest.one_each ∙ ap (λ (h : WeightedGraph). length h.edges) c.requires.graph

pub returns : goal.returns
returns g c =
    c.draw_saliencies.ensures c.args.tree.now
    (subst (λ (h : WeightedGraph). AreLowestAltitudes h c.args.tree.now c.deref.result.now) c.requires.graph
    (subst (λ (vs : List ℕ). AreLowestAltitudes c.args.graph.now c.args.tree.now vs) (sym c.deref.ensures.value) c.in_ok-values.ensures.lowest))
