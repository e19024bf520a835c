use Rattle.std.proofs.Common.{subst}
use Rattle.hg_base.specs.Graph.{WeightedGraph}
use Rattle.higra_report.proofs.HierarchyLemmas.{is_hierarchy}
use Rattle.higra_report.specs.Theorems.{IsHierarchy}
use Rattle.contour_run.proofs.DrawingLemmas.{receipt_drawn}
use Rattle.contour_run.proofs.drawing.draw_picture.Goals as goal

pub returns-clause-receipt : goal.returns-clause-receipt
returns-clause-receipt g c =
    receipt_drawn c.args.request.now c.args.picture.now c.in_ok-graph.graph _ c.in_ok-order.ensures.own.receipt c.in_ok-graph.ensures

pub returns-clause-hierarchy : goal.returns-clause-hierarchy
returns-clause-hierarchy g c = subst (λ (h : WeightedGraph). IsHierarchy h) c.in_ok-graph.ensures (is_hierarchy _ _ c.in_ok-order.ensures.own.tree)
