use Rattle.std.proofs.Common.{arith}
use Rattle.std.proofs.lemmas.List.{get_or_read}
use Rattle.tile_plan.proofs.Reading.{holds-as}
use Rattle.tile_plan.proofs.Ranges.{places-below}
use Rattle.tile_plan.proofs.plan.Plan.place_of.Goals as goal

pub returns-clause-below : goal.returns-clause-below
returns-clause-below c =
    let h = holds-as c.self.inside c.args.self.now c.self.view_is c.self.invariant in
    let t = h.places.places in
    let read = get_or_read c.self.inside.places.places.items c.args.v c.index.result.now (omega (arith, t.long, c.requires)) c.index.ensures 0 in
    omega (arith, read, t.at c.args.v c.requires, places-below c.args.self.now c.args.v h.plan c.requires)
