use Rattle.std.proofs.Common.{sym, ◌∙◌, ap}
use Rattle.tree_laws.specs.Tree.{altitude}
use Rattle.tree_laws.specs.Zones.{keeps}
use Rattle.partition_tree.proofs.ListsByNumber.{passing_more, passing_same}
use Rattle.quasi_flat_zones.proofs.lists.altitudes.Goals as goal
use Rattle.quasi_flat_zones.proofs.lists.altitudes.Goals.{then-keeps+in_ok-push, else-keeps}

pub loop-i-preserved : goal.loop-i-preserved
loop-i-preserved c =
    let t = c.args.tree.now in
    elim c.if-keeps.branch [
      | then-keeps+in_ok-push w ↦
          ap (λ v. v.items) w.altitudes-is
          ∙ passing_more (altitude t) (keeps t) c.loop-i.i w.altitude.result c.loop-i.altitudes.items w.push.new.self.items c.loop-i.invariant
          (sym c.keeps.ensures ∙ w.if-keeps.true) w.altitude.ensures.value w.in_ok-push.ensures.items
      | else-keeps w ↦ ap (λ v. v.items) w.altitudes-is ∙ passing_same (altitude t) (keeps t) c.loop-i.i c.loop-i.altitudes.items c.loop-i.invariant (sym c.keeps.ensures ∙ w.if-keeps.false)
    ]
