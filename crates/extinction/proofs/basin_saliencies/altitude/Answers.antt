use Rattle.std.proofs.Common.{◌≡◌, ℕ, sym, ◌∙◌, ap, subst}
use Rattle.std.proofs.lemmas.Bool.{some_since}
use Rattle.hg_base.specs.Graph.{first_end, second_end}
use Rattle.tree_laws.specs.Tree.{ParentTree}
use Rattle.partition_tree.specs.Paths.{ShareRoot}
use Rattle.saliency.proofs.ValueLemmas.{first-is, second-is}
use Rattle.extinction.specs.Basins.{basin}
use Rattle.extinction.proofs.basin_saliencies.altitude.Goals as goal

pub unwrap-node-requires : goal.unwrap-node-requires
unwrap-node-requires c =
    let g = c.args.graph.now in
    let l = c.args.labels.now in
    let t = c.args.basins.now in
    let x = c.edge-edge.result in
    let a : c.basin_of-a.result ≡ basin l (first_end g c.args.e) = c.basin_of-a.ensures.basin ∙ ap (basin l) (sym (first-is g c.args.e x c.edge-edge.ensures.value)) in
    let b : c.basin_of-b.result ≡ basin l (second_end g c.args.e) = c.basin_of-b.ensures.basin ∙ ap (basin l) (sym (second-is g c.args.e x c.edge-edge.ensures.value)) in
    some_since c.lca.result _ _ c.lca.ensures.roots (λ apart. apart
    (subst (λ (u : ParentTree). ShareRoot u c.basin_of-a.result c.basin_of-b.result) (sym c.requires.ancestors)
    (subst (λ (k : ℕ). ShareRoot t k c.basin_of-b.result) (sym a)
    (subst (λ (k : ℕ). ShareRoot t (basin l (first_end g c.args.e)) k) (sym b) (c.requires.roots c.args.e c.requires.within)))))
