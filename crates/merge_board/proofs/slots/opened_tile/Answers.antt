use Rattle.std.proofs.Common.{◌≡◌, ℕ, ◌-◌, ◌≤◌, arith, ap}
use Rattle.hg_base.specs.declared.graph.Room.{Room}
use Rattle.tile_plan.specs.Plan.{tile_count, vertices, first_place, end_place, room_places, room_tiles}
use Rattle.merge_board.proofs.Rooms.{some_place, some_room, few_places, few_tiles, within, opened_answer}
use Rattle.merge_board.proofs.slots.opened_tile.Goals as goal

pub of_tile-requires-clause-some_place : goal.of_tile-requires-clause-some_place
of_tile-requires-clause-some_place c =
    let long : c.range-first.result.1 ≡ end_place c.args.plan.now c.args.tile - first_place c.args.plan.now c.args.tile = ap (λ (x : ℕ × ℕ). x.1) c.range-first.ensures in
    let a = some_place c.args.plan.now c.args.tile c.keeps_its_rules.ensures.plan c.requires.tile in omega arith

pub of_tile-requires-clause-few_places : goal.of_tile-requires-clause-few_places
of_tile-requires-clause-few_places c =
    let long : c.range-first.result.1 ≡ end_place c.args.plan.now c.args.tile - first_place c.args.plan.now c.args.tile = ap (λ (x : ℕ × ℕ). x.1) c.range-first.ensures in
    let room : c.room_of-room.result.places ≡ room_places c.args.plan.now c.args.tile = ap (λ (x : Room). x.places) c.room_of-room.ensures.value in
    let a = few_places c.args.plan.now c.args.tile c.keeps_its_rules.ensures.plan c.requires.tile in omega arith

pub of_tile-requires-clause-range : goal.of_tile-requires-clause-range
of_tile-requires-clause-range c =
    let at : c.range-first.result.0 ≡ first_place c.args.plan.now c.args.tile = ap (λ (x : ℕ × ℕ). x.0) c.range-first.ensures in
    let room : c.room_of-room.result.places ≡ room_places c.args.plan.now c.args.tile = ap (λ (x : Room). x.places) c.room_of-room.ensures.value in
    let all : vertices c.args.plan.now ≤ 1048576 = c.keeps_its_rules.ensures.plan.frame.vertices in
    let a = within c.args.plan.now c.args.tile c.keeps_its_rules.ensures.plan c.requires.tile in omega arith

pub of_tile-requires-clause-some_chunk : goal.of_tile-requires-clause-some_chunk
of_tile-requires-clause-some_chunk c =
    let room : c.room_of-room.result.chunks ≡ room_tiles c.args.plan.now c.args.tile = ap (λ (x : Room). x.chunks) c.room_of-room.ensures.value in
    let a = some_room c.args.plan.now c.args.tile c.keeps_its_rules.ensures.plan c.requires.tile in omega arith

pub of_tile-requires-clause-few_chunks : goal.of_tile-requires-clause-few_chunks
of_tile-requires-clause-few_chunks c =
    let room : c.room_of-room.result.chunks ≡ room_tiles c.args.plan.now c.args.tile = ap (λ (x : Room). x.chunks) c.room_of-room.ensures.value in
    let few : tile_count c.args.plan.now ≤ 65536 = c.keeps_its_rules.ensures.plan.tiles in
    let a = few_tiles c.args.plan.now c.args.tile c.keeps_its_rules.ensures.plan c.requires.tile in omega arith

pub returns : goal.returns
returns c =
    opened_answer c.args.plan.now c.args.tile c.keeps_its_rules.ensures.plan c.requires.tile c.of_tile.result c.range-first.result.0 c.range-first.result.1 c.room_of-room.result
    (ap (λ (x : ℕ × ℕ). x.0) c.range-first.ensures) (ap (λ (x : ℕ × ℕ). x.1) c.range-first.ensures) c.room_of-room.ensures.value c.of_tile.ensures.part c.of_tile.ensures.stands
