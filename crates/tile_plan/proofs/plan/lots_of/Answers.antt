use Rattle.std.proofs.Common.{◌≡◌, ℕ, ◌-◌, ◌*◌, ◌∙◌, arith, ap, length}
use Rattle.std.proofs.lemmas.List.{length-map}
use Rattle.tile_plan.proofs.Agreeing.{lots-hold}
use Rattle.tile_plan.proofs.plan.lots_of.Goals as goal

pub starts-requires-clause-few : goal.starts-requires-clause-few
starts-requires-clause-few g c =
    let long : length c.deref.result.now ≡ length c.args.order.now.edges = ap length (c.deref.ensures.value ∙ c.in_ok-numbers.ensures.numbers) ∙ length-map _ _ in
    let few = c.in_ok-numbers.ensures.few in
    omega (arith, long, few)

pub lots-requires-clause-few : goal.lots-requires-clause-few
lots-requires-clause-few g c =
    let long : length c.deref-2.result.now ≡ length c.args.order.now.edges = ap length (c.deref-2.ensures.value ∙ c.in_ok-numbers.ensures.numbers) ∙ length-map _ _ in
    let few = c.in_ok-numbers.ensures.few in
    omega (arith, long, few)

pub returns-clause-lots : goal.returns-clause-lots
returns-clause-lots g c = λ q plan same grid homes places.
    lots-hold q c.args.order.now.edges c.args.grid (2 * c.tiles.result - 1) c.args.homes.now c.args.places.now c.in_ok-numbers.numbers.items c.deref.result.now c.deref-2.result.now c.deref-3.result.now
    (record { starts = c.in_ok-starts.starts; edges = c.in_ok-edges.edges }) plan same grid homes places c.in_ok-numbers.ensures.numbers
    c.deref.ensures.value c.in_ok-starts.ensures (ap (λ (z : ℕ). 2 * z - 1) c.tiles.ensures.value)
    c.deref-2.ensures.value c.deref-3.ensures.value c.in_ok-edges.ensures.len c.in_ok-edges.ensures.lots
