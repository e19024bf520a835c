use Rattle.tile_plan.proofs.Agreeing.{starts-agree, places-agree}
use Rattle.tile_plan.proofs.plan.places_of.Goals as goal

pub returns : goal.returns
returns c = λ q count h. record {
  starts = starts-agree q c.args.homes.now c.in_ok-starts.starts.items c.args.tiles h count c.in_ok-starts.ensures;
  places = places-agree q c.args.homes.now c.in_ok-places.places.items h c.in_ok-places.ensures;
}
