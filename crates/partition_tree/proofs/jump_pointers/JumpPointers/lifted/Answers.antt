use Rattle.std.proofs.Common.{sym, subst, arith}
use Rattle.partition_tree.specs.JumpPointers.{KeepsCommon}
use Rattle.partition_tree.proofs.JumpLemmas.{lift-jump, lift-parent, deep-up}
use Rattle.partition_tree.proofs.jump_pointers.JumpPointers.lifted.Goals as goal

pub returns-then-depth-clause-next : goal.returns-then-depth-clause-next
returns-then-depth-clause-next c =
    let up = c.jump-jump.ensures.up (deep-up c.args.tree.now _ _ c.requires.pointers c.args.deep c.requires.deep (omega arith)) in
    lift-jump c.args.tree.now _ _ c.requires.pointers.well_formed c.requires.pointers c.args.deep c.args.other _ c.requires.deep c.requires.other c.jump-jump.ensures.above up (omega arith)

pub returns-else-depth-clause-next : goal.returns-else-depth-clause-next
returns-else-depth-clause-next c =
    subst (λ p. KeepsCommon c.args.tree.now c.args.deep c.args.other p c.args.other) (sym c.parent.ensures.value)
    (lift-parent c.args.tree.now _ _ c.requires.pointers.well_formed c.requires.pointers c.args.deep c.args.other c.requires.deep c.requires.other c.requires.deeper)
