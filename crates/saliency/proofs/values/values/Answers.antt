use Rattle.std.proofs.Common.{arith}
use Rattle.saliency.proofs.ValueLemmas.{values_more, lowest-all, saliencies-all, each-saliency}
use Rattle.saliency.proofs.values.values.Goals as goal

pub loop-e-preserved : goal.loop-e-preserved
loop-e-preserved c = values_more c.args.graph.now c.args.tree.now c.loop-e.e c.value.result c.loop-e.values.items _ c.loop-e.invariant c.value.ensures.lowest c.value.ensures.saliency c.in_ok-push.ensures.items

pub returns-clause-lowest : goal.returns-clause-lowest
returns-clause-lowest c = lowest-all c.args.graph.now c.args.tree.now c.loop-e.e c.loop-e.values.items (omega (arith, c.loop-e-test.false, c.loop-e.auto.e-end, c.m-e-end.ensures.value)) c.loop-e.invariant

pub returns-clause-saliencies : goal.returns-clause-saliencies
returns-clause-saliencies c = saliencies-all c.args.graph.now c.args.tree.now c.loop-e.e c.loop-e.values.items (omega (arith, c.loop-e-test.false, c.loop-e.auto.e-end, c.m-e-end.ensures.value)) c.loop-e.invariant

pub returns-clause-least : goal.returns-clause-least
returns-clause-least c = λ same.
    each-saliency c.args.graph.now c.loop-e.values.items
    (saliencies-all c.args.graph.now c.args.tree.now c.loop-e.e c.loop-e.values.items (omega (arith, c.loop-e-test.false, c.loop-e.auto.e-end, c.m-e-end.ensures.value)) c.loop-e.invariant same)
