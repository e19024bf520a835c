use Rattle.std.proofs.Common.{◌<◌, ◌≤◌, arith, length, get_or}
use Rattle.component_tree.proofs.components.push_parents.Goals as goal

pub overflow_add-leaves : goal.overflow_add-leaves
overflow_add-leaves c =
    let low : get_or c.args.places.now c.parent-parent.result 0 < length c.args.list.now = (c.requires.1.1.1.each c.parent-parent.result c.parent-parent.ensures.within).within in
    let few : length c.args.list.now ≤ 2097151 = c.requires.1.1.0.few in
    omega (arith, low, few, c.leaves-leaves.ensures.leaves)
