use Rattle.std.proofs.Common.{ℕ, ◌+◌, ◌<◌, ◌≤◌, ap, arith, length, get_or}
use Rattle.component_tree.specs.NodeComponents.{parent_of_leaf}
use Rattle.partition_tree.proofs.ListsByNumber.{values_more}
use Rattle.component_tree.proofs.components.leaf_parents.Goals as goal

pub overflow_add-leaves-in-loop-x : goal.overflow_add-leaves-in-loop-x
overflow_add-leaves-in-loop-x c =
    let hx : c.loop-x.x < length c.args.tree.now.parents = omega (arith, c.loop-x-test.true, c.leaves-leaves.ensures.within, c.leaves-leaves.ensures.value) in
    let low : get_or c.args.places.now c.loop-x.x 0 < length c.args.list.now = (c.requires.1.1.1.each c.loop-x.x hx).within in
    let few : length c.args.list.now ≤ 2097151 = c.requires.1.1.0.few in
    omega (arith, low, few, c.leaves-leaves.ensures.leaves)

pub loop-x-preserved : goal.loop-x-preserved
loop-x-preserved c =
    values_more (parent_of_leaf c.args.tree.now c.args.places.now) c.loop-x.x (c.leaves-leaves.result + get_or c.args.places.now c.loop-x.x 0) c.loop-x.parents.items c.push.new.self.items c.loop-x.invariant
    (ap (λ (k : ℕ). k + get_or c.args.places.now c.loop-x.x 0) c.leaves-leaves.ensures.value) c.in_ok-push.ensures.items
