use Rattle.std.proofs.Common.{◌≡◌, ◌≤◌, ap, arith, get_or}
use Rattle.std.specs.Option.{option_map_or}
use Rattle.std.specs.Prelude.{Option}
use Rattle.hg_base.specs.declared.graph.Edge.{Edge}
use Rattle.hg_base.specs.Graph.{weight}
use Rattle.higra_report.proofs.SummaryLemmas.{value_small}
use Rattle.higra_report.proofs.findings.saliency_of.Goals as goal

pub prove-unreachable-requires : goal.prove-unreachable-requires
prove-unreachable-requires c =
    let low : get_or c.args.values.now c.args.e 0 ≤ weight c.args.graph.now c.args.e = value_small c.args.graph.now c.args.values.now c.args.e c.requires.values c.requires.within in
    let own : weight c.args.graph.now c.args.e ≡ c.edge.result.w = ap (λ (o : Option Edge). option_map_or (λ x. x.w) o 0) c.edge.ensures.value in
    omega (arith, low, own, c.from-weight.ensures, c.if-prove.true)
