use Rattle.std.proofs.Common.{rules, ◌≡◌, [], ◌∷◌, None, Some, ap, sym, subst, ◌∙◌}
use Rattle.tile_plan.specs.Plan.{TilePlan, IsPlan, parent, sibling, side}
use Rattle.atomic_table.specs.Table.{turned, rest}
use Rattle.tile_plan.specs.declared.site.Side.TheVariants as sides
use Rattle.merge_board.specs.Fits.{Fits}
use Rattle.merge_board.proofs.Handing.{third_slot, same_first, halves_left, halves_right}
use Rattle.border_climb.specs.Stands.{PartState}
use Rattle.merge_board.proofs.HeldSlots.{turned_before, slot_first, before_rest}
use Rattle.merge_board.specs.Steps.{Hold}
use Rattle.merge_board.proofs.board.Board.take_halves.Goals as goal

pub exchange-other-requires : goal.exchange-other-requires
exchange-other-requires c =
    let e : c.turn.new.self.me.1 ≡ turned c.args.token.now.me.1 = ap (λ (m : Hold). m.1) c.turn.ensures.2 in
    let f = turned_before c.args.token.now.me.1 c.turn.new.self.me.1 (parent c.args.self.now.plan c.args.number, None) (sibling c.args.self.now.plan c.args.number, Some c.requires.held.other) (c.args.number, Some c.requires.held.own) c.requires.held.slots e in
    let s : sibling c.args.self.now.plan c.args.number ≡ c.sibling-sibling.result = sym (c.sibling-sibling.ensures ∙ ap (λ (q : TilePlan). sibling q c.args.number) c.requires.plan) in
    (search rules, (Some c.requires.held.other, slot_first c.turn.new.self.me.1 ((c.args.number, Some c.requires.held.own) ∷ (parent c.args.self.now.plan c.args.number, None) ∷ []) (sibling c.args.self.now.plan c.args.number) c.sibling-sibling.result (Some c.requires.held.other) f s))

pub exchange-own-requires : goal.exchange-own-requires
exchange-own-requires c =
    let e1 : c.turn.new.self.me.1 ≡ turned c.args.token.now.me.1 = ap (λ (m : Hold). m.1) c.turn.ensures.2 in
    let e2 : c.exchange-other.new.seat.me.1 ≡ (c.sibling-sibling.result, None) ∷ rest c.turn.new.self.me.1 = ap (λ (m : Hold). m.1) c.exchange-other.ensures.3 in
    let e3 : c.turn-2.new.self.me.1 ≡ turned c.exchange-other.new.seat.me.1 = ap (λ (m : Hold). m.1) c.turn-2.ensures.2 in
    let f = third_slot c.args.token.now.me.1 c.turn.new.self.me.1 c.exchange-other.new.seat.me.1 c.turn-2.new.self.me.1 (parent c.args.self.now.plan c.args.number, None) (sibling c.args.self.now.plan c.args.number, Some c.requires.held.other) (c.args.number, Some c.requires.held.own) c.sibling-sibling.result c.requires.held.slots e1 e2 e3 in
    (search rules, (Some c.requires.held.own, before_rest c.turn-2.new.self.me.1 ((parent c.args.self.now.plan c.args.number, None) ∷ (c.sibling-sibling.result, None) ∷ []) (c.args.number, Some c.requires.held.own) f))

pub returns-in-Left-clause-halves : goal.returns-in-Left-clause-halves
returns-in-Left-clause-halves c =
    let e1 : c.turn.new.self.me.1 ≡ turned c.args.token.now.me.1 = ap (λ (m : Hold). m.1) c.turn.ensures.2 in
    let e2 : c.exchange-other.new.seat.me.1 ≡ (c.sibling-sibling.result, None) ∷ rest c.turn.new.self.me.1 = ap (λ (m : Hold). m.1) c.exchange-other.ensures.3 in
    let e3 : c.turn-2.new.self.me.1 ≡ turned c.exchange-other.new.seat.me.1 = ap (λ (m : Hold). m.1) c.turn-2.ensures.2 in
    let s = turned_before c.args.token.now.me.1 c.turn.new.self.me.1 (parent c.args.self.now.plan c.args.number, None) (sibling c.args.self.now.plan c.args.number, Some c.requires.held.other) (c.args.number, Some c.requires.held.own) c.requires.held.slots e1 in
    let o = third_slot c.args.token.now.me.1 c.turn.new.self.me.1 c.exchange-other.new.seat.me.1 c.turn-2.new.self.me.1 (parent c.args.self.now.plan c.args.number, None) (sibling c.args.self.now.plan c.args.number, Some c.requires.held.other) (c.args.number, Some c.requires.held.own) c.sibling-sibling.result c.requires.held.slots e1 e2 e3 in
    let other : c.in-Some-Some.other ≡ c.requires.held.other = same_first c.turn.new.self.me.1 (rest c.turn.new.self.me.1) ((c.args.number, Some c.requires.held.own) ∷ (parent c.args.self.now.plan c.args.number, None) ∷ []) c.sibling-sibling.result (sibling c.args.self.now.plan c.args.number) c.exchange-other.result c.requires.held.other c.in-Some-Some.other c.exchange-other.ensures.2 s (search rules) in
    let own : c.in-Some-Some.own ≡ c.requires.held.own = same_first c.turn-2.new.self.me.1 (rest c.turn-2.new.self.me.1) ((parent c.args.self.now.plan c.args.number, None) ∷ (c.sibling-sibling.result, None) ∷ []) c.args.number c.args.number c.exchange-own.result c.requires.held.own c.in-Some-Some.own c.exchange-own.ensures.2 o (search rules) in
    let plan : IsPlan c.args.self.now.plan = search rules in
    let on : side c.args.self.now.plan c.args.number ≡ sides.Left = subst (λ (q : TilePlan). side q c.args.number ≡ sides.Left) c.requires.plan (sym c.parent-parent.ensures.side ∙ c.in-Left.is) in
    let above : c.parent-parent.result.0 ≡ parent c.args.self.now.plan c.args.number = c.parent-parent.ensures.parent ∙ ap (λ (q : TilePlan). parent q c.args.number) c.requires.plan in
    halves_left c.args.self.now.plan c.args.number c.parent-parent.result.0 c.in-Some-Some.own c.in-Some-Some.other plan c.requires.part c.requires.inner on above
    (subst (λ (x : PartState). Fits c.args.self.now.plan c.args.number x) (sym own) c.requires.held.own_fits) (subst (λ (x : PartState). Fits c.args.self.now.plan (sibling c.args.self.now.plan c.args.number) x) (sym other) c.requires.held.other_fits)

pub returns-in-Right-clause-halves : goal.returns-in-Right-clause-halves
returns-in-Right-clause-halves c =
    let e1 : c.turn.new.self.me.1 ≡ turned c.args.token.now.me.1 = ap (λ (m : Hold). m.1) c.turn.ensures.2 in
    let e2 : c.exchange-other.new.seat.me.1 ≡ (c.sibling-sibling.result, None) ∷ rest c.turn.new.self.me.1 = ap (λ (m : Hold). m.1) c.exchange-other.ensures.3 in
    let e3 : c.turn-2.new.self.me.1 ≡ turned c.exchange-other.new.seat.me.1 = ap (λ (m : Hold). m.1) c.turn-2.ensures.2 in
    let s = turned_before c.args.token.now.me.1 c.turn.new.self.me.1 (parent c.args.self.now.plan c.args.number, None) (sibling c.args.self.now.plan c.args.number, Some c.requires.held.other) (c.args.number, Some c.requires.held.own) c.requires.held.slots e1 in
    let o = third_slot c.args.token.now.me.1 c.turn.new.self.me.1 c.exchange-other.new.seat.me.1 c.turn-2.new.self.me.1 (parent c.args.self.now.plan c.args.number, None) (sibling c.args.self.now.plan c.args.number, Some c.requires.held.other) (c.args.number, Some c.requires.held.own) c.sibling-sibling.result c.requires.held.slots e1 e2 e3 in
    let other : c.in-Some-Some.other ≡ c.requires.held.other = same_first c.turn.new.self.me.1 (rest c.turn.new.self.me.1) ((c.args.number, Some c.requires.held.own) ∷ (parent c.args.self.now.plan c.args.number, None) ∷ []) c.sibling-sibling.result (sibling c.args.self.now.plan c.args.number) c.exchange-other.result c.requires.held.other c.in-Some-Some.other c.exchange-other.ensures.2 s (search rules) in
    let own : c.in-Some-Some.own ≡ c.requires.held.own = same_first c.turn-2.new.self.me.1 (rest c.turn-2.new.self.me.1) ((parent c.args.self.now.plan c.args.number, None) ∷ (c.sibling-sibling.result, None) ∷ []) c.args.number c.args.number c.exchange-own.result c.requires.held.own c.in-Some-Some.own c.exchange-own.ensures.2 o (search rules) in
    let plan : IsPlan c.args.self.now.plan = search rules in
    let on : side c.args.self.now.plan c.args.number ≡ sides.Right = subst (λ (q : TilePlan). side q c.args.number ≡ sides.Right) c.requires.plan (sym c.parent-parent.ensures.side ∙ c.in-Right.is) in
    let above : c.parent-parent.result.0 ≡ parent c.args.self.now.plan c.args.number = c.parent-parent.ensures.parent ∙ ap (λ (q : TilePlan). parent q c.args.number) c.requires.plan in
    halves_right c.args.self.now.plan c.args.number c.parent-parent.result.0 c.in-Some-Some.own c.in-Some-Some.other plan c.requires.part c.requires.inner on above
    (subst (λ (x : PartState). Fits c.args.self.now.plan c.args.number x) (sym own) c.requires.held.own_fits) (subst (λ (x : PartState). Fits c.args.self.now.plan (sibling c.args.self.now.plan c.args.number) x) (sym other) c.requires.held.other_fits)
