use Rattle.std.proofs.Common.{◌∙◌, sym, arith, eq-eqb}
use Rattle.std.specs.Prelude.{◌==◌}
use Rattle.std.proofs.lemmas.Bool.{ne_eqb}
use Rattle.tree_laws.specs.Tree.{parent}
use Rattle.partition_tree.proofs.NodeLemmas.{count_fits, count_more_yes, count_more_no}
use Rattle.partition_tree.proofs.tree.Tree.roots.Goals as goal
use Rattle.partition_tree.proofs.tree.Tree.roots.Goals.{then-parent-i, else-parent-i}

pub overflow_add-roots : goal.overflow_add-roots
overflow_add-roots c = omega (arith, c.loop-i.invariant, count_fits (λ i. parent c.args.self.now i == i) c.loop-i.i)

pub loop-i-preserved : goal.loop-i-preserved
loop-i-preserved c =
    elim c.if-parent-i.branch [
      | then-parent-i w ↦
          w.roots-is ∙ count_more_yes (λ i. parent c.args.self.now i == i) c.loop-i.i c.loop-i.roots c.loop-i.invariant
          (eq-eqb (parent c.args.self.now c.loop-i.i) c.loop-i.i (sym c.parent.ensures.value ∙ w.if-parent-i.true))
      | else-parent-i w ↦
          w.roots-is ∙ count_more_no (λ i. parent c.args.self.now i == i) c.loop-i.i c.loop-i.roots c.loop-i.invariant
          (ne_eqb (parent c.args.self.now c.loop-i.i) c.loop-i.i (λ e. w.if-parent-i.false (c.parent.ensures.value ∙ e)))
    ]
