use Rattle.std.proofs.Common.{sym, subst}
use Rattle.std.proofs.lemmas.Result.{err_from_is_err_and}
use Rattle.higra_report.proofs.PlanningLemmas.{plan_refused, planned_is}
use Rattle.higra_report.specs.Planning.{IsPlanned}
use Rattle.higra_report.proofs.planning.hierarchy_in.Goals as goal

pub returns-in_err-made : goal.returns-in_err-made
returns-in_err-made g c =
    let p = err_from_is_err_and c.from_residual.result c.from_residual.ensures.1 in
    subst (IsPlanned c.args.graph.now c.args.tiling c.args.workers) (sym p.1)
    (plan_refused c.args.graph.now c.args.tiling c.args.workers c.in_err-made.field-0.0 p.0 c.in_err-made.ensures p.2)

pub returns : goal.returns
returns g c = planned_is c.args.graph.now c.args.tiling c.args.workers c.in_ok-made.made c.in_ok-made.ensures
