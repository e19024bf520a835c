use Rattle.partition_tree.proofs.WellFormed.{well_formed-climbs}
use Rattle.component_tree.specs.NodeComponents.{is_component}
use Rattle.component_tree.proofs.Placing.{places-of_stops}
use Rattle.component_tree.proofs.nodes.send_places_down.Goals as goal

pub send_down-requires-clause-one_each : goal.send_down-requires-clause-one_each
send_down-requires-clause-one_each c = c.requires.own.one_each

pub returns : goal.returns
returns c =
    let t = c.args.tree.now in
    places-of_stops t c.args.levels.now c.requires.list.0 c.args.list.now c.args.places.now _ (well_formed-climbs t c.send_down.ensures.well_formed) c.requires.list.1 c.requires.own
    (c.send_down.ensures.values (is_component t c.args.levels.now) (λ i b h answer. answer))
