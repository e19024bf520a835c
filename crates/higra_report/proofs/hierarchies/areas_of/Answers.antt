use Rattle.std.proofs.Common.{arith}
use Rattle.higra_report.proofs.EnergyLemmas.{areas_all, areas_more}
use Rattle.higra_report.proofs.hierarchies.areas_of.Goals as goal

pub loop-i-preserved : goal.loop-i-preserved
loop-i-preserved c = areas_more c.args.attributes.now.areas c.loop-i.i c.area.result c.loop-i.areas.items c.push.new.self.items c.area.ensures c.loop-i.invariant c.in_ok-push.ensures.items

pub returns : goal.returns
returns c = areas_all c.args.attributes.now.areas c.loop-i.i c.loop-i.areas.items (omega (arith, c.loop-i-test.false, c.nodes-nodes.ensures.value, c.requires)) c.loop-i.invariant
