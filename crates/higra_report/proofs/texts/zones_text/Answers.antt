use Rattle.std.proofs.Common.{◌≡◌, subst}
use Rattle.std.specs.Prelude.{IfOk}
use Rattle.tree_laws.specs.Tree.{ParentTree}
use Rattle.partition_tree.specs.Report.{tree_report}
use Rattle.higra_report.proofs.CutLemmas.{zones_are}
use Rattle.higra_report.proofs.texts.zones_text.Goals as goal

pub returns : goal.returns
returns g c =
    subst (λ (z : ParentTree). IfOk c.tree_pieces.result (λ text. text ≡ tree_report z)) (zones_are c.args.graph.now c.args.tree.now c.in_ok-zones.zones c.requires c.in_ok-zones.ensures.zones) c.tree_pieces.ensures
