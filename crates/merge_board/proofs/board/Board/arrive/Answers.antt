use Rattle.std.proofs.Common.{rules, ◌≡◌, ◌≢◌, [], ◌∷◌, None, Some, ap, sym, subst, ◌∙◌}
use Rattle.tile_plan.specs.Plan.{TilePlan, IsPlan, root, parent, sibling}
use Rattle.merge_board.proofs.Handing.{merge_seat}
use Rattle.merge_board.proofs.board.Board.arrive.Goals as goal

pub parent-parent-requires-clause-plan : goal.parent-parent-requires-clause-plan
parent-parent-requires-clause-plan c =
    subst (λ (q : TilePlan). IsPlan q) (sym c.requires.plan) c.put_down-found.ensures.plan

pub invariant_of-seat-2 : goal.invariant_of-seat-2
invariant_of-seat-2 c =
    let here : c.args.self.now.plan ≡ c.seat.inside.token.me.0.plan = search rules in
    let same : c.args.plan.now ≡ c.seat.inside.token.me.0.plan = c.requires.plan ∙ here in
    let plan : IsPlan c.seat.inside.token.me.0.plan = subst (λ (q : TilePlan). IsPlan q) here c.put_down-found.ensures.plan in
    let hand : c.seat.inside.token.me.0.hand ≡ Some c.in-Some.number = sym c.seat.invariant.hand ∙ c.in-Some.is in
    let inner : c.in-Some.number ≢ root c.seat.inside.token.me.0.plan = (λ e. c.if-number-root.false (e ∙ ap (λ (q : TilePlan). root q) (sym same) ∙ sym c.root.ensures)) in
    let above : c.parent-parent.result.0 ≡ parent c.seat.inside.token.me.0.plan c.in-Some.number = c.parent-parent.ensures.parent ∙ ap (λ (q : TilePlan). parent q c.in-Some.number) same in
    let slots : c.take_halves.new.token.me ≡ (c.put_down-found.new.token.me.0, (parent c.seat.inside.token.me.0.plan c.in-Some.number, None) ∷ (sibling c.seat.inside.token.me.0.plan c.in-Some.number, None) ∷ (c.in-Some.number, None) ∷ []) =
    subst (λ (q : TilePlan). c.take_halves.new.token.me ≡ (c.put_down-found.new.token.me.0, (parent q c.in-Some.number, None) ∷ (sibling q c.in-Some.number, None) ∷ (c.in-Some.number, None) ∷ [])) here c.take_halves.ensures.slots in
    merge_seat c.seat.inside c.take_halves.new.token c.in-Some.number c.put_down-found.result c.parent-parent.result.0 (Some c.args.part) c.put_down-found.new.token.me c.seat.invariant plan hand inner c.if-found-eq0.false c.put_down-found.ensures.arrives above slots
