use Rattle.std.proofs.Common.{rules, ◌≡◌, ◌<◌, None, false, ap, sym, ◌∙◌, [], arith}
use Rattle.tile_plan.specs.Plan.{TilePlan, tile_count}
use Rattle.merge_board.proofs.Allowed.{may_draw}
use Rattle.merge_board.proofs.HeldSlots.{slot_drawn, idle_turns}
use Rattle.merge_board.proofs.board.Board.draw.Goals as goal

-- src/board.rt:48:13
pub fetch_add-found-requires : goal.fetch_add-found-requires
fetch_add-found-requires c =
    let hand : c.seat.inside.token.me.0.hand ≡ None = search rules in
    let fresh : c.seat.inside.token.me.0.missed ≡ false = search rules in
    let known : c.seat.inside.token.me.0.plan ≡ c.self.inside.table.shared.key.plan.value = search rules in
    let held : c.seat.inside.token.me.1 ≡ [] = idle_turns c.seat.inside.token.me.0.plan c.seat.inside.token.me.0.hand c.seat.inside.token.me.1 hand c.seat.invariant.turns in (
      search rules,
      (let w = c.self.invariant.words in omega arith),
      may_draw c.self.inside.table.shared.key.plan.value c.self.inside.table.shared.key.workers c.seat.inside.token.id c.self.inside.table.shared.table_id.slots c.seat.inside.token.me
          hand fresh c.seat.invariant.share known held,
    )

-- src/board.rt:55:9
pub exchange-requires : goal.exchange-requires
exchange-requires c =
    let known : c.seat.inside.token.me.0.plan ≡ c.self.inside.table.shared.key.plan.value = search rules in
    let same : c.args.plan.now ≡ c.self.inside.table.shared.key.plan.value = search rules in
    let tiles : c.tiles.result ≡ tile_count c.seat.inside.token.me.0.plan = c.tiles.ensures.value ∙ ap (λ (q : TilePlan). tile_count q) (same ∙ sym known) in
    let more : c.fetch_add-found.result < tile_count c.seat.inside.token.me.0.plan = omega (arith, tiles, c.from.ensures) in
    (search rules, slot_drawn c.seat.inside.token.me c.fetch_add-found.new.seat.me c.fetch_add-found.result c.fetch_add-found.ensures.2 more)
