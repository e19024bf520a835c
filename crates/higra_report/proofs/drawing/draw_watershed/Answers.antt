use Rattle.std.proofs.Common.{ap, ◌∙◌}
use Rattle.watershed_cut.specs.Watershed.{WatershedCut}
use Rattle.higra_report.proofs.DrawingLemmas.{watershed_pixels}
use Rattle.higra_report.proofs.drawing.draw_watershed.Goals as goal

pub draw-requires : goal.draw-requires
draw-requires c =
    watershed_pixels c.args.picture.now c.args.graph.now c.labels.result.now c.requires.graph (c.labels.ensures ∙ ap (λ (w : WatershedCut). w.labels) c.in_ok-watershed.ensures.watershed)
