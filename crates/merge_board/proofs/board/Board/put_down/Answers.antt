use Rattle.std.proofs.Common.{rules, ◌≡◌, ◌<◌, ◌∷◌, Some, ap, subst, ◌∙◌, arith}
use Rattle.tile_plan.specs.Plan.{TilePlan, part_count}
use Rattle.atomic_table.specs.Table.{turned, rest}
use Rattle.merge_board.specs.Fits.{Fits}
use Rattle.merge_board.specs.Board.{door, toll}
use Rattle.merge_board.specs.Steps.{Hold, AreTurns}
use Rattle.merge_board.proofs.Handing.{may_put_down, told_alone, door_within}
use Rattle.merge_board.proofs.board.Board.put_down.Goals as goal

pub fetch_add-requires : goal.fetch_add-requires
fetch_add-requires c =
    let plan : c.args.self.now.plan ≡ c.self.inside.table.shared.key.plan.value = search rules in
    let known : c.args.token.now.me.0.plan ≡ c.self.inside.table.shared.key.plan.value = search rules in
    let fits : Fits c.self.inside.table.shared.key.plan.value c.args.number c.args.part = subst (λ (q : TilePlan). Fits q c.args.number c.args.part) plan c.requires.fits in
    let turns : AreTurns c.self.inside.table.shared.key.plan.value (Some c.args.number) c.args.token.now.me.1 = subst (λ (q : TilePlan). AreTurns q (Some c.args.number) c.args.token.now.me.1) plan c.requires.turns in
    let word : c.door-word.result ≡ door c.self.inside.table.shared.key.plan.value c.args.number = c.door-word.ensures ∙ ap (λ (q : TilePlan). door q c.args.number) (c.requires.plan ∙ plan) in
    let by : c.toll-toll.result ≡ toll c.self.inside.table.shared.key.plan.value c.args.number = c.toll-toll.ensures ∙ ap (λ (q : TilePlan). toll q c.args.number) (c.requires.plan ∙ plan) in
    let me : c.turn.new.self.me ≡ (c.args.token.now.me.0, turned ((c.args.number, Some c.args.part) ∷ rest c.args.token.now.me.1)) = c.turn.ensures.2 ∙ ap (λ (m : Hold). (m.0, turned m.1)) c.exchange.ensures.3 in
    let part : c.args.number < part_count c.self.inside.table.shared.key.plan.value = subst (λ (q : TilePlan). c.args.number < part_count q) plan c.requires.part in
    let low : c.door-word.result < c.self.inside.table.shared.table_id.words = (let d = door_within c.self.inside.table.shared.key.plan.value c.args.number c.self.invariant.plan part in let w = c.self.invariant.words in omega (arith, word, d, w)) in (
      search rules,
      low,
      may_put_down c.self.inside.table.shared.key.plan.value c.self.inside.table.shared.key.workers c.turn.new.self.id c.self.inside.table.shared.table_id.slots c.args.number c.args.token.now.me c.turn.new.self.me c.door-word.result c.toll-toll.result c.args.part
          c.requires.hand known fits turns me word by,
    )

pub returns-clause-arrives : goal.returns-clause-arrives
returns-clause-arrives c =
    let plan : c.args.self.now.plan ≡ c.self.inside.table.shared.key.plan.value = search rules in
    let known : c.args.token.now.me.0.plan ≡ c.self.inside.table.shared.key.plan.value = search rules in
    let turns : AreTurns c.self.inside.table.shared.key.plan.value (Some c.args.number) c.args.token.now.me.1 = subst (λ (q : TilePlan). AreTurns q (Some c.args.number) c.args.token.now.me.1) plan c.requires.turns in
    let me : c.turn.new.self.me ≡ (c.args.token.now.me.0, turned ((c.args.number, Some c.args.part) ∷ rest c.args.token.now.me.1)) = c.turn.ensures.2 ∙ ap (λ (m : Hold). (m.0, turned m.1)) c.exchange.ensures.3 in
    told_alone c.self.inside.table.shared.key.plan.value c.args.number c.fetch_add.result c.args.token.now.me c.turn.new.self.me c.fetch_add.new.seat.me c.args.part c.requires.hand known turns me c.fetch_add.ensures.2
