use Rattle.std.proofs.Common.{◌<◌, ◌≤◌, ◌∙◌, arith}
use Rattle.partition_tree.specs.TreeLists.{nodes}
use Rattle.higra_report.proofs.SummaryLemmas.{greatest_all, greatest_more}
use Rattle.higra_report.proofs.summary.greatest_altitude.Goals as goal

pub loop-i-preserved : goal.loop-i-preserved
loop-i-preserved c =
    let low : c.loop-i.i < nodes c.args.tree.now = omega (arith, c.loop-i-test.true, c.nodes-i-end.ensures.value) in
    c.greater-greatest.ensures ∙ greatest_more c.args.tree.now c.loop-i.i c.altitude.result c.loop-i.greatest c.nodes-i-end.ensures.well_formed low c.altitude.ensures.value c.loop-i.invariant

pub returns : goal.returns
returns c =
    let end : nodes c.args.tree.now ≤ c.loop-i.i = omega (arith, c.loop-i-test.false, c.nodes-i-end.ensures.value) in
    greatest_all c.args.tree.now c.loop-i.i c.loop-i.greatest c.nodes-i-end.ensures.well_formed end c.loop-i.invariant
