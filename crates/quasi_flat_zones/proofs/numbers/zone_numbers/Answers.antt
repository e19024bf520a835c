use Rattle.std.proofs.Common.{sym, ◌∙◌, arith}
use Rattle.tree_laws.specs.Zones.{keeps, zone_number}
use Rattle.hg_base.proofs.Passing.{count_below-most}
use Rattle.partition_tree.proofs.ListsByNumber.{values_more}
use Rattle.quasi_flat_zones.proofs.ZoneNumberLemmas.{kept_more, kept_same}
use Rattle.quasi_flat_zones.proofs.numbers.zone_numbers.Goals as goal
use Rattle.quasi_flat_zones.proofs.numbers.zone_numbers.Goals.{then-keeps, else-keeps}

pub overflow_add-kept : goal.overflow_add-kept
overflow_add-kept c = omega (arith, c.loop-i.invariant.counted, count_below-most (keeps c.args.tree.now) c.loop-i.i)

pub loop-i-preserved : goal.loop-i-preserved
loop-i-preserved c = record {
  counted = elim c.if-keeps.branch [
    | then-keeps w ↦ w.kept-is ∙ kept_more c.args.tree.now c.loop-i.i c.loop-i.kept c.loop-i.invariant.counted (sym c.keeps.ensures ∙ w.if-keeps.true)
    | else-keeps w ↦ w.kept-is ∙ kept_same c.args.tree.now c.loop-i.i c.loop-i.kept c.loop-i.invariant.counted (sym c.keeps.ensures ∙ w.if-keeps.false)
  ];
  so_far = values_more (zone_number c.args.tree.now) c.loop-i.i c.loop-i.kept _ _ c.loop-i.invariant.so_far c.loop-i.invariant.counted c.in_ok-push.ensures.items;
}
