use Rattle.std.proofs.Common.{ℕ, sym, subst}
use Rattle.std.specs.Prelude.{Option, IfSome}
use Rattle.std.proofs.lemmas.Bool.{some_since}
use Rattle.hg_base.specs.Graph.{first_end}
use Rattle.tree_laws.specs.Tree.{ParentTree, IsLowestAbove}
use Rattle.partition_tree.specs.Paths.{ShareRoot}
use Rattle.saliency.specs.Values.{EndsShareRoots}
use Rattle.saliency.proofs.ValueLemmas.{first-is, second-is, lowest-saliency}
use Rattle.saliency.proofs.values.value.Goals as goal

pub unwrap-node-requires : goal.unwrap-node-requires
unwrap-node-requires c =
    let g = c.args.graph.now in
    let t = c.args.ancestors.now in
    let roots = subst (λ (x : ParentTree). EndsShareRoots g x) (sym c.requires.ancestors) c.requires.roots in
    some_since c.lca.result _ _ c.lca.ensures.roots (λ apart. apart
    (subst (λ (a : ℕ). ShareRoot t a c.edge-edge.result.v) (first-is g c.args.e c.edge-edge.result c.edge-edge.ensures.value)
    (subst (λ (b : ℕ). ShareRoot t (first_end g c.args.e) b) (second-is g c.args.e c.edge-edge.result c.edge-edge.ensures.value) (roots c.args.e c.requires.within))))

pub returns-clause-saliency : goal.returns-clause-saliency
returns-clause-saliency c = λ same.
    let t = c.args.tree.now in
    let x = c.edge-edge.result in
    let met = subst (λ (o : Option ℕ). IfSome o (IsLowestAbove c.args.ancestors.now x.u x.v)) c.unwrap-node.ensures c.lca.ensures.lowest in
    let low = subst (λ (a : ParentTree). IsLowestAbove a x.u x.v c.unwrap-node.result) c.requires.ancestors met in
    lowest-saliency c.args.graph.now c.args.e x t c.unwrap-node.result c.altitude.result c.edge-edge.ensures.value c.edge-edge.ensures.ends c.requires.within low c.altitude.ensures.value same
