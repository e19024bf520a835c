use Rattle.std.proofs.Common.{ℕ, ◌+◌, suc, ◌≡◌, List, [], ◌∷◌, ◌++◌, sym, ◌∙◌, ap, arith}
use Rattle.std.specs.List.{range_with_len}
use Rattle.hg_base.proofs.Passing.{range_to-suc}
use Rattle.partition_tree.proofs.passes.own_numbers.Goals as goal

pub loop-i-preserved : goal.loop-i-preserved
loop-i-preserved c =
    let e : c.loop-i.i + 1 ≡ suc c.loop-i.i = omega arith in
    c.in_ok-push.ensures.items ∙ ap (λ (xs : List ℕ). xs ++ c.loop-i.i ∷ []) c.loop-i.invariant ∙ sym (range_to-suc c.loop-i.i) ∙ ap (range_with_len 0) (sym e)
