use Rattle.std.proofs.Common.{◌<◌, ◌≤◌, length, arith, eq-eqb, eqb-true}
use Rattle.saliency.proofs.RootLemmas.{ends-tell}
use Rattle.saliency.proofs.roots.ends_share_root.Goals as goal

pub returns : goal.returns
returns c =
    let g = c.args.graph.now in
    let t = c.args.tree.now in
    let x = c.edge-edge.result in
    let few : t.leaves ≤ length t.parents = omega (arith, c.leaves-leaves.ensures.value, c.leaves-leaves.ensures.within) in
    let u : x.u < length t.parents = omega (arith, few, c.requires.leaves, c.edge-edge.ensures.ends.u) in
    let v : x.v < length t.parents = omega (arith, few, c.requires.leaves, c.edge-edge.ensures.ends.v) in
    let tell = ends-tell g t c.args.roots.now c.args.e x c.requires.roots c.edge-edge.ensures.value u v in
    (λ same. tell.0 (eqb-true _ _ same), λ share. eq-eqb _ _ (tell.1 share))
