use Rattle.std.proofs.Common.{ap, subst, ◌∙◌}
use Rattle.energy_cut.specs.Regions.{RegionCut}
use Rattle.hg_base.specs.Labels.{Labelling}
use Rattle.higra_report.proofs.EnergyLemmas.{least_cut_is}
use Rattle.higra_report.specs.Drawing.{IsDrawn}
use Rattle.higra_report.proofs.drawing.draw_energy_cut.Goals as goal

pub returns : goal.returns
returns g c =
    let cut = least_cut_is c.args.graph.now c.args.tree.now c.args.penalty c.deref.result.now c.in_ok-cut.cut c.requires.tree (c.deref.ensures.value ∙ c.in_ok-energies.ensures.energies) c.in_ok-cut.ensures.value in
    subst (λ (l : Labelling). IsDrawn l c.args.picture.now c.draw.result) (c.labels.ensures ∙ ap (λ (k : RegionCut). k.labels) cut) c.draw.ensures
