use Rattle.std.proofs.Common.{arith}
use Rattle.partition_tree.proofs.JumpLemmas.{jumps-known}
use Rattle.partition_tree.proofs.jump_pointers.jump_above.Goals as goal

pub bounds-depths-second : goal.bounds-depths-second
bounds-depths-second c =
    let k = jumps-known c.args.tree.now _ _ c.args.node c.requires.pointers c.requires.within in
    omega (arith, k.second_within, c.requires.pointers.one_depth_each)

pub overflow_add-depths : goal.overflow_add-depths
overflow_add-depths c =
    let k = jumps-known c.args.tree.now _ _ c.args.node c.requires.pointers c.requires.within in
    omega (arith, k.depth_fits, k.second_fits, k.small)

pub overflow_mul-depths : goal.overflow_mul-depths
overflow_mul-depths c =
    let k = jumps-known c.args.tree.now _ _ c.args.node c.requires.pointers c.requires.within in
    omega (arith, k.first_fits, k.small)

pub returns-then-depths-node-clause-above : goal.returns-then-depths-node-clause-above
returns-then-depths-node-clause-above c = (jumps-known c.args.tree.now _ _ c.args.node c.requires.pointers c.requires.within).above

pub returns-then-depths-node-clause-rises : goal.returns-then-depths-node-clause-rises
returns-then-depths-node-clause-rises c = (jumps-known c.args.tree.now _ _ c.args.node c.requires.pointers c.requires.within).rises

pub returns-then-depths-node-clause-within : goal.returns-then-depths-node-clause-within
returns-then-depths-node-clause-within c = (jumps-known c.args.tree.now _ _ c.args.node c.requires.pointers c.requires.within).second_within
