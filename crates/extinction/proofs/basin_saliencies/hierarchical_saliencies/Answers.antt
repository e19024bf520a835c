use Rattle.std.proofs.Common.{sym, ◌∙◌, ap, subst, length}
use Rattle.std.proofs.lemmas.Result.{IfOk-weaker}
use Rattle.hg_base.specs.Labels.{Labelling}
use Rattle.extinction.specs.Basins.{IsBasinTree, BasinsShareRoots, AreBasinAltitudes}
use Rattle.extinction.proofs.HierarchyBasins.{labels-long, basins-share, values-lowest}
use Rattle.extinction.proofs.basin_saliencies.hierarchical_saliencies.Goals as goal

pub altitudes-requires-clause-labels : goal.altitudes-requires-clause-labels
altitudes-requires-clause-labels g c κs within = ap (λ (l : Labelling). length l.labels) c.in_ok-labels.ensures.labels ∙ labels-long c.args.graph.now

pub altitudes-requires-clause-roots : goal.altitudes-requires-clause-roots
altitudes-requires-clause-roots g c κs within =
    let graph = c.args.graph.now in
    let t = c.in_ok-basins.basins in
    subst (λ (l : Labelling). BasinsShareRoots graph l t) (sym c.in_ok-labels.ensures.labels)
    (basins-share graph c.keeps_its_rules.ensures.graph c.args.kind t (subst (λ (l : Labelling). IsBasinTree graph c.args.kind l t) c.in_ok-labels.ensures.labels c.in_ok-basins.ensures))

pub returns : goal.returns
returns g c =
    let graph = c.args.graph.now in
    let t = c.in_ok-basins.basins in
    IfOk-weaker c.altitudes.result _ _ (λ values found.
    values-lowest graph c.keeps_its_rules.ensures.graph c.args.kind t values.items (subst (λ (l : Labelling). IsBasinTree graph c.args.kind l t) c.in_ok-labels.ensures.labels c.in_ok-basins.ensures)
    (subst (λ (l : Labelling). AreBasinAltitudes graph l t values.items) c.in_ok-labels.ensures.labels found)) c.altitudes.ensures
