-- The part of a tile before it is built: the room of the tile's part holds it, and it is opened.
use Rattle.std.proofs.Common.{◌≡◌, ℕ, ◌+◌, ◌-◌, ◌<◌, ◌≤◌, refl, sym, ◌∙◌, ap, arith, []}
use Rattle.std.specs.Prelude.{None, Result, Ok, Err, IfOk}
use Rattle.std.proofs.lemmas.List.{length-replicate}
use Rattle.tile_plan.specs.Plan.{TilePlan, IsPlan, tile_count, vertices, first_place, end_place, first_tile, tiles_of, room_tiles, room_places, start}
use Rattle.tile_plan.specs.Laws.{IsSomewhere, IsTile}
use Rattle.tile_plan.proofs.Ranges.{is_somewhere, is_tile, start-rises, start-within}
use Rattle.node_region.specs.Pool.{count}
use Rattle.border_climb.specs.Stands.{PartState, Stands}
use Rattle.border_climb.specs.Parts.{empty_part}
use Rattle.hg_base.specs.declared.graph.Room.{Room}
use Rattle.merge_board.specs.Fits.{Opened}
use Rattle.merge_board.proofs.Joins.{opens}

module _ (p : TilePlan) (t : ℕ) (plan : IsPlan p) (h : t < tile_count p) where
  somewhere : IsSomewhere p t
  somewhere = is_somewhere p t plan (omega arith)

  tile : IsTile p t
  tile = is_tile p t plan h

  -- the largest part that begins with the tile ends within the plan
  first_place_at : first_place p t ≡ start p t
  first_place_at = ap (λ (x : ℕ). start p x) tile.first

  room_at : room_tiles p (first_tile p t) ≡ room_tiles p t
  room_at = ap (λ (x : ℕ). room_tiles p x) tile.first

  pub some_room : 1 ≤ room_tiles p t
  some_room = let a = somewhere.room in let b = tile.one in let c = room_at in omega arith

  pub few_tiles : t + room_tiles p t ≤ tile_count p
  few_tiles = let a = somewhere.room_tiles in let b = tile.first in let c = room_at in omega arith

  end_place_at : end_place p t ≡ start p (t + 1)
  end_place_at = ap (λ (x : ℕ). start p x) (let a = tile.first in let b = tile.one in (let e : first_tile p t + tiles_of p t ≡ t + 1 = omega arith in e))

  pub some_place : 1 ≤ end_place p t - first_place p t
  some_place = let a = somewhere.some_place in omega arith

  rises : start p t ≤ start p (t + room_tiles p t)
  rises = start-rises p t (t + room_tiles p t) (omega arith)

  pub few_places : end_place p t - first_place p t ≤ room_places p t
  few_places = let a = start-rises p (t + 1) (t + room_tiles p t) (let s = some_room in omega arith) in let b = end_place_at in let c = first_place_at in let d : room_places p t ≡ start p (t + room_tiles p t) - start p t = refl in omega arith

  pub within : first_place p t + room_places p t ≤ vertices p
  within = let a = start-within p (t + room_tiles p t) in let b = rises in let c = first_place_at in let d : room_places p t ≡ start p (t + room_tiles p t) - start p t = refl in omega arith

  -- the part with no edges is opened
  pub opened_part : (part : PartState) (room : Room) → room ≡ record { places = room_places p t; chunks = room_tiles p t } → part ≡ empty_part (first_place p t) (end_place p t - first_place p t) room → Stands part [] → Opened p t part
  opened_part part room is_room is_empty stands = opens p t part (record {
    shape = record {
      first = ap (λ (x : PartState). x.region.first) is_empty;
      places = ap (λ (x : PartState). count x.region) is_empty ∙ length-replicate (end_place p t - first_place p t) None;
      chunks = ap (λ (x : PartState). x.region.chunks) is_empty ∙ sym tile.one;
      room = ap (λ (x : PartState). x.region.room) is_empty ∙ is_room ∙ ap (λ (x : ℕ). record { places = room_places p x; chunks = room_tiles p x }) (sym tile.first);
    };
    lots = ap (λ (x : PartState). x.lots) is_empty;
    stands = stands;
  })

  -- the same of an answer
  pub opened_answer : {E : Type 0} (r : Result PartState E) (a b : ℕ) (room : Room) → a ≡ first_place p t → b ≡ end_place p t - first_place p t → room ≡ record { places = room_places p t; chunks = room_tiles p t } → IfOk r (λ part. part ≡ empty_part a b room)
      → IfOk r (λ part. Stands part []) → IfOk r (λ part. Opened p t part)
  opened_answer (Err e) a b room at long is_room is_empty stands = is_empty
  opened_answer (Ok part) a b room at long is_room is_empty stands = opened_part part room is_room (is_empty ∙ ap (λ (x : ℕ). empty_part x b room) at ∙ ap (λ (x : ℕ). empty_part (first_place p t) x room) long) stands
