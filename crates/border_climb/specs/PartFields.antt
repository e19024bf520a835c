-- What the fields of a part stand for.
use Rattle.std.specs.Prelude.{◌≤◌, ◌*◌, ◌+◌, vec_capacity}
use Rattle.border_climb.specs.Stands.{PartState}
use Rattle.border_climb.specs.Notes.{IsSound}
use Rattle.border_climb.specs.declared.part.Part.TheInside.{Inside}

abbrev pub part_of : Inside → PartState
part_of p = record { region = p.region; lots = p.lots.items; given = p.given }

-- links and notes are sound, and each part that the room allows has its place in the list of lots
pub record IsPart (p : Inside) : Type 0 where
  pub sound : IsSound p.region
  pub reserved : 2 * p.region.room.chunks ≤ vec_capacity p.lots + 1
