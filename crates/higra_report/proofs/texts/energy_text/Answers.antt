use Rattle.std.proofs.Common.{◌≡◌, ℕ, List, subst, ◌∙◌}
use Rattle.std.specs.Prelude.{IfOk}
use Rattle.energy_cut.specs.Regions.{RegionCut}
use Rattle.energy_cut.specs.Report.{energy_report}
use Rattle.higra_report.proofs.EnergyLemmas.{least_cut_is}
use Rattle.higra_report.specs.Reports.{graph_energies}
use Rattle.higra_report.proofs.texts.energy_text.Goals as goal

pub returns : goal.returns
returns g c =
    let cut = least_cut_is c.args.graph.now c.args.tree.now c.args.penalty c.deref.result.now c.in_ok-cut.cut c.requires.tree (c.deref.ensures.value ∙ c.in_ok-energies.ensures.energies) c.in_ok-cut.ensures.value in
    subst (λ (k : RegionCut). IfOk c.energy_pieces.result (λ text. text ≡ energy_report k (graph_energies c.args.graph.now c.args.penalty))) cut
    (subst (λ (xs : List ℕ). IfOk c.energy_pieces.result (λ text. text ≡ energy_report c.in_ok-cut.cut xs)) (c.deref-2.ensures.value ∙ c.in_ok-energies.ensures.energies) c.energy_pieces.ensures)
