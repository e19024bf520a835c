use Rattle.std.proofs.Common.{ℕ, List, [], ◌∷◌, ◌++◌, sym, ◌∙◌, ap, arith, get_or, map}
use Rattle.std.specs.List.{range_with_len}
use Rattle.std.proofs.lemmas.List.FromFn.{map-range_with_len_more}
use Rattle.watershed_cut.proofs.forest.vertex_labels.Goals as goal

pub loop-x-preserved : goal.loop-x-preserved
loop-x-preserved c =
    let f : ℕ → ℕ = λ x. get_or c.in_ok-nodes.nodes.items (get_or c.args.near.now x 0) 0 in
    c.in_ok-push.ensures.items
    ∙ ap (λ (xs : List ℕ). xs ++ c.nearest_label.result ∷ []) c.loop-x.invariant
    ∙ ap (λ (v : ℕ). map f (range_with_len 0 c.loop-x.x) ++ v ∷ []) (c.nearest_label.ensures ∙ ap (λ (xs : List ℕ). get_or xs (get_or c.args.near.now c.loop-x.x 0) 0) c.deref.ensures.value)
    ∙ sym (map-range_with_len_more f 0 c.loop-x.x c.loop-x.x (omega arith))
