use Rattle.partition_tree.proofs.JumpLemmas.{swapped}
use Rattle.partition_tree.proofs.jump_pointers.JumpPointers.next.Goals as goal

pub returns-then-depth_a-depth_b-clause-next : goal.returns-then-depth_a-depth_b-clause-next
returns-then-depth_a-depth_b-clause-next c =
    swapped c.args.tree.now c.args.a c.args.b c.args.a _ c.lifted-then-depth_a-depth_b.ensures.next
