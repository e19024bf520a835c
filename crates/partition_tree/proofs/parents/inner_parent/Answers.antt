use Rattle.std.proofs.Common.{subst, arith}
use Rattle.std.specs.Prelude.{Option, ℕ, IfSome}
use Rattle.node_region.specs.Pool.{IsUsed}
use Rattle.partition_tree.proofs.CellLemmas.{used-within}
use Rattle.partition_tree.proofs.parents.inner_parent.Goals as goal

pub node_or-requires : goal.node_or-requires
node_or-requires c = λ x e.
    let pool = c.args.part.now.region in
    let linked = c.requires.linked in
    let used : IsUsed pool x = subst (λ (o : Option ℕ). IfSome o (IsUsed pool)) e c.up_of_cell.ensures.used in
    omega (arith, used-within pool x linked.cells.first used, c.deref.ensures.len, linked.one_each)
