use Rattle.std.proofs.Common.{subst}
use Rattle.std.specs.Prelude.{IsPermutation, List}
use Rattle.component_tree.specs.declared.nodes.Component.{Component}
use Rattle.component_tree.proofs.Sorting.{sorted-components}
use Rattle.component_tree.proofs.nodes.components.Goals as goal

pub returns-clause-list : goal.returns-clause-list
returns-clause-list c =
    sorted-components c.args.tree.now c.args.levels.now c.args.leasts.now c.sort_unstable.new.self.items c.in_ok-list.ensures.well_formed.small
    (subst (λ (l : List Component). IsPermutation l c.sort_unstable.new.self.items) c.in_ok-list.ensures.list c.sort_unstable.ensures.permutation)
    c.sort_unstable.ensures.sorted
