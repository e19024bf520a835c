use Rattle.std.proofs.Common.{◌∙◌, ap, arith, ◌<◌, length}
use Rattle.std.specs.Prelude.{Option, None, unwrap_or, ℕ}
use Rattle.std.proofs.lemmas.List.{get_or_default}
use Rattle.attributes.proofs.LightestEdges.{floors_more}
use Rattle.attributes.proofs.floors.floors.Goals as goal

pub loop-x-preserved : goal.loop-x-preserved
loop-x-preserved c =
    let a = c.in_ok-lightest.ensures in
    let low : c.loop-x.x < c.args.graph.now.n = omega (arith, c.loop-x-test.true, c.n-x-end.ensures.value) in
    let within : c.loop-x.x < length c.in_ok-lightest.lightest.items = omega (arith, low, a.one_each) in
    floors_more c.args.graph.now c.loop-x.x _ c.in_ok-lightest.lightest.items c.loop-x.floors.items c.push.new.self.items a low c.loop-x.invariant
    (c.from.ensures ∙ c.unwrap_or.ensures
    ∙ ap (λ (o : Option ℕ). unwrap_or o 0) (c.index.ensures ∙ get_or_default c.in_ok-lightest.lightest.items c.loop-x.x c.index.result.now None within))
    c.in_ok-push.ensures.items
