use Rattle.std.proofs.Common.{◌≡◌, ℕ, ◌≤◌, List, ◌∙◌, ap, arith, length, map}
use Rattle.std.specs.List.{range_with_len}
use Rattle.tree_laws.specs.Tree.{altitude}
use Rattle.component_tree.specs.MinTree.{turned, value_at}
use Rattle.std.proofs.lemmas.List.FromFn.{length-map-range_with_len}
use Rattle.component_tree.specs.NodeComponents.{level_in}
use Rattle.partition_tree.proofs.ListsByNumber.{values_more}
use Rattle.component_tree.proofs.ListSteps.{split-values}
use Rattle.component_tree.proofs.nodes.levels.Goals as goal

pub loop-x-preserved : goal.loop-x-preserved
loop-x-preserved c =
    values_more (λ x. turned c.args.side (value_at c.args.values.now x)) c.loop-x.x c.turned.result c.loop-x.levels.items c.push.new.self.items c.loop-x.invariant
    (c.turned.ensures ∙ ap (turned c.args.side) c.value.ensures.value) c.in_ok-push.ensures.items

pub returns-clause-levels : goal.returns-clause-levels
returns-clause-levels c =
    let t = c.args.tree.now in
    let whole : c.loop-x.x ≡ t.leaves = omega (arith, c.leaves-x-end.ensures.value) in
    let low : t.leaves ≤ length t.parents = omega (arith, c.leaves-x-end.ensures.value, c.leaves-x-end.ensures.within) in
    split-values (λ x. turned c.args.side (value_at c.args.values.now x)) (altitude t) t.leaves (length t.parents) c.loop-x.levels.items c.push_altitudes.new.levels.items low
    (c.loop-x.invariant ∙ ap (λ (n : ℕ). map (λ x. turned c.args.side (value_at c.args.values.now x)) (range_with_len 0 n)) whole)
    c.in_ok-push_altitudes.ensures

pub returns-clause-len : goal.returns-clause-len
returns-clause-len c =
    let t = c.args.tree.now in
    let whole : c.loop-x.x ≡ t.leaves = omega (arith, c.leaves-x-end.ensures.value) in
    let low : t.leaves ≤ length t.parents = omega (arith, c.leaves-x-end.ensures.value, c.leaves-x-end.ensures.within) in
    ap (λ (l : List ℕ). length l) (split-values (λ x. turned c.args.side (value_at c.args.values.now x)) (altitude t) t.leaves (length t.parents) c.loop-x.levels.items c.push_altitudes.new.levels.items low
    (c.loop-x.invariant ∙ ap (λ (n : ℕ). map (λ x. turned c.args.side (value_at c.args.values.now x)) (range_with_len 0 n)) whole)
    c.in_ok-push_altitudes.ensures)
    ∙ length-map-range_with_len (level_in c.args.side c.args.values.now t) 0 (length t.parents)
