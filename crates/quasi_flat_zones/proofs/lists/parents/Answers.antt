use Rattle.std.proofs.Common.{ℕ, sym, ◌∙◌, ap, arith, get_or}
use Rattle.tree_laws.specs.Tree.{parent}
use Rattle.tree_laws.specs.Zones.{keeps, zone_number, next_kept}
use Rattle.tree_laws.proofs.Kept.{next_kept-parent}
use Rattle.partition_tree.proofs.ListsByNumber.{passing_more, passing_same}
use Rattle.partition_tree.proofs.WellFormed.{well_formed-climbs}
use Rattle.quasi_flat_zones.proofs.lists.parents.Goals as goal
use Rattle.quasi_flat_zones.proofs.lists.parents.Goals.{then-keeps+in_ok-push, else-keeps}

pub loop-i-preserved : goal.loop-i-preserved
loop-i-preserved c =
    let t = c.args.tree.now in
    let f = c.nodes-i-end.ensures.well_formed in
    let low = c.loop-i-test.true in
    elim c.if-keeps.branch [
      | then-keeps+in_ok-push w ↦
          ap (λ v. v.items) w.parents-is
          ∙ passing_more (λ i. zone_number t (next_kept t i)) (keeps t) c.loop-i.i (get_or c.args.numbers.now w.parent.result 0) c.loop-i.parents.items w.push.new.self.items c.loop-i.invariant
          (sym c.keeps.ensures ∙ w.if-keeps.true)
          (ap (λ (p : ℕ). get_or c.args.numbers.now p 0) w.parent.ensures.value
          ∙ c.requires.nearest.each (parent t c.loop-i.i) (f.within c.loop-i.i (omega (arith, low, c.nodes-i-end.ensures.value)))
          ∙ ap (zone_number t) (sym (next_kept-parent t (well_formed-climbs t f) c.loop-i.i (omega (arith, low, c.nodes-i-end.ensures.value)))))
          w.in_ok-push.ensures.items
      | else-keeps w ↦
          ap (λ v. v.items) w.parents-is
          ∙ passing_same (λ i. zone_number t (next_kept t i)) (keeps t) c.loop-i.i c.loop-i.parents.items c.loop-i.invariant (sym c.keeps.ensures ∙ w.if-keeps.false)
    ]
