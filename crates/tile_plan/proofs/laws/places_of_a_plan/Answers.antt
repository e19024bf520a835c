use Rattle.tile_plan.proofs.Ranges.{is_somewhere, is_tile, places-once, places-below}
use Rattle.tile_plan.proofs.Reading.{some-tile}
use Rattle.tile_plan.proofs.laws.places_of_a_plan.Goals as goal

pub returns-clause-parts : goal.returns-clause-parts
returns-clause-parts c = is_somewhere

pub returns-clause-tiles : goal.returns-clause-tiles
returns-clause-tiles c = is_tile

pub returns-clause-once : goal.returns-clause-once
returns-clause-once c = places-once

pub returns-clause-below : goal.returns-clause-below
returns-clause-below c = places-below

pub returns-clause-some_tile : goal.returns-clause-some_tile
returns-clause-some_tile c = some-tile
