use Rattle.std.proofs.Common.{◌∙◌, sym}
use Rattle.node_region.proofs.Views.{covered-seen, hinted-none, hinted-other, hinted-same}
use Rattle.node_region.proofs.region.Region.find_entry.Goals as goal

pub slot_of-slot-requires : goal.slot_of-slot-requires
slot_of-slot-requires c = rw (← c.self.view_is) (covered-seen c.self.inside c.args.hint.cell (c.covers.ensures.0 c.if-not-covers.false))

pub returns-in-Some-clause-found : goal.returns-in-Some-clause-found
returns-in-Some-clause-found c =
    hinted-same c.args.self.now c.args.hint (sym c.slot_of-slot.ensures.turn ∙ c.if-slot-hint.true) ∙ sym c.slot_of-slot.ensures.cell ∙ sym c.cell.ensures ∙ c.in-Some.is

pub returns-in-Some-clause-kept : goal.returns-in-Some-clause-kept
returns-in-Some-clause-kept c = record {
  cell = sym c.slot_of-slot.ensures.cell ∙ sym c.cell.ensures ∙ c.in-Some.is;
  turn = sym c.slot_of-slot.ensures.turn;
  hint = sym c.slot_of-slot.ensures.hint ∙ sym c.hint.ensures;
}

pub returns-in_default-clause-none : goal.returns-in_default-clause-none
returns-in_default-clause-none c = hinted-other c.args.self.now c.args.hint (λ same. c.if-slot-hint.false (c.slot_of-slot.ensures.turn ∙ same))

pub returns-in_default-2-clause-none : goal.returns-in_default-2-clause-none
returns-in_default-2-clause-none c = hinted-none c.args.self.now c.args.hint (sym c.slot_of-slot.ensures.cell ∙ sym c.cell.ensures ∙ c.in_default.is)
