use Rattle.std.proofs.Common.{List, [], ◌∷◌, ◌++◌, take, sym, ap, ◌∙◌, arith}
use Rattle.std.proofs.lemmas.List.{take_more}
use Rattle.std.proofs.lemmas.List.Elements.{All-push}
use Rattle.std.proofs.lemmas.Option.{get_or_from_slice_get}
use Rattle.hg_base.specs.Graph.{JoinsTwo}
use Rattle.hg_base.specs.declared.graph.Edge.{Edge}
use Rattle.edge_order.proofs.order.edges.Goals as goal

pub loop-number-preserved : goal.loop-number-preserved
loop-number-preserved c =
    let g = c.args.graph.now in
    let e = c.loop-number.number in
    let x = c.edge.result in
    let so_far = ap (λ (xs : List Edge). xs ++ x ∷ []) c.loop-number.invariant.so_far
    ∙ sym (take_more g.edges e x (omega arith) ∙ ap (λ (y : Edge). take e g.edges ++ y ∷ []) (get_or_from_slice_get g.edges e x x c.edge.ensures.value)) in
    rw c.in_ok-push.ensures.items (record { so_far = so_far; ends = All-push (JoinsTwo g.n) _ _ c.loop-number.invariant.ends c.edge.ensures.ends })
