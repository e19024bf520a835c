use Rattle.std.proofs.Common.{◌≤◌, arith, length}
use Rattle.higra_report.proofs.SummaryLemmas.{total_all, values_length}
use Rattle.higra_report.proofs.findings.total.Goals as goal

pub returns : goal.returns
returns c =
    let each = values_length c.args.graph.now c.args.values.now c.requires in
    let long : length c.args.values.now ≤ c.loop-e.e = omega (arith, each, c.m-e-end.ensures.value, c.loop-e-test.false) in
    total_all c.args.values.now c.loop-e.e c.loop-e.total long c.loop-e.invariant.so_far
