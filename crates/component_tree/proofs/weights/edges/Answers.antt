use Rattle.std.proofs.Common.{◌≡◌, ℕ, ◌∙◌, ap}
use Rattle.hg_base.specs.declared.graph.Edge.{Edge}
use Rattle.component_tree.specs.MinTree.{value_at}
use Rattle.component_tree.specs.Weighed.{weight_between, weighed_edge}
use Rattle.component_tree.proofs.ListSteps.{mapped_next}
use Rattle.component_tree.proofs.weights.edges.Goals as goal

pub loop-e-preserved : goal.loop-e-preserved
loop-e-preserved c =
    let e : Edge = c.edge-edge.result in
    let v : Edge = record { u = e.u; v = e.v; w = c.weight_between-w.result } in
    let weighs : c.weight_between-w.result ≡ weight_between c.args.side (value_at c.args.values.now e.u) (value_at c.args.values.now e.v) =
    c.weight_between-w.ensures
    ∙ ap (λ (a : ℕ). weight_between c.args.side a c.value-second.result) c.value-first.ensures.value
    ∙ ap (λ (b : ℕ). weight_between c.args.side (value_at c.args.values.now e.u) b) c.value-second.ensures.value in
    let value : v ≡ weighed_edge c.args.side c.args.values.now e = (let f : ℕ → Edge = λ w. record { u = e.u; v = e.v; w = w } in ap f weighs) in
    mapped_next (weighed_edge c.args.side c.args.values.now) c.args.graph.now.edges c.loop-e.e e v c.loop-e.edges.items c.push.new.self.items c.loop-e.invariant c.edge-edge.ensures.value value c.in_ok-push.ensures.items
