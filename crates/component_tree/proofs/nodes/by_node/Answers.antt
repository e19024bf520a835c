use Rattle.std.proofs.Common.{refl, sym, ◌∙◌, ap}
use Rattle.component_tree.specs.NodeComponents.{is_component, component_of}
use Rattle.partition_tree.proofs.ListsByNumber.{passing_more, passing_same}
use Rattle.component_tree.proofs.nodes.by_node.Goals as goal
use Rattle.component_tree.proofs.nodes.by_node.Goals.{then-is_component+in_ok-push, else-is_component}

pub loop-i-preserved : goal.loop-i-preserved
loop-i-preserved c =
    let f = component_of c.args.levels.now c.args.leasts.now in
    let p = is_component c.args.tree.now c.args.levels.now in
    elim c.if-is_component.branch [
      | then-is_component+in_ok-push w ↦
          ap (λ v. v.items) w.list-is
          ∙ passing_more f p c.loop-i.i (f c.loop-i.i) c.loop-i.list.items w.push.new.self.items c.loop-i.invariant (sym c.is_component.ensures ∙ w.if-is_component.true) refl w.in_ok-push.ensures.items
      | else-is_component w ↦
          ap (λ v. v.items) w.list-is
          ∙ passing_same f p c.loop-i.i c.loop-i.list.items c.loop-i.invariant (sym c.is_component.ensures ∙ w.if-is_component.false)
    ]
