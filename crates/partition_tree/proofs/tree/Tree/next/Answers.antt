use Rattle.partition_tree.proofs.JumpLemmas.{swapped}
use Rattle.partition_tree.proofs.tree.Tree.next.Goals as goal

pub returns-in_err-raised-2-clause-next : goal.returns-in_err-raised-2-clause-next
returns-in_err-raised-2-clause-next c = rw c.from_residual-in_err-raised-2.ensures (λ j p. c.in_err-raised-2.ensures.next j (p.1, p.0))

pub returns-in_ok-raised-2-clause-next : goal.returns-in_ok-raised-2-clause-next
returns-in_ok-raised-2-clause-next c = swapped c.args.self.now c.args.a c.args.b c.args.a _ c.in_ok-raised-2.ensures.next
