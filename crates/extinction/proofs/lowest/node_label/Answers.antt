use Rattle.std.proofs.Common.{◌-◌, ◌<◌, ◌≤◌, ℕ, sym, ◌∙◌, ap, subst, arith, length, get_or, nat_lt}
use Rattle.std.proofs.lemmas.Bool.{cond-true, cond-false, lt-ltb, le-ltb}
use Rattle.std.proofs.lemmas.Option.{get_or_from_slice_get}
use Rattle.watershed_cut.proofs.ChosenEdges.{maker-below, maker-is}
use Rattle.watershed_cut.proofs.WatershedLemmas.{minima-lengths}
use Rattle.extinction.specs.NodeSurvivors.{node_label}
use Rattle.extinction.proofs.OwnLemmas.{by-minima}
use Rattle.extinction.proofs.NodeLabels.{node_label-most}
use Rattle.extinction.proofs.lowest.node_label.Goals as goal

pub label_of_vertex-requires : goal.label_of_vertex-requires
label_of_vertex-requires c =
    let r = c.requires.minima in
    let long = minima-lengths r.0 c.args.tree.now c.args.minima.now r.1.1.0 r.1.1.1 in
    omega (arith, long.0, c.if-i-leaves.true, c.leaves.ensures.value)

pub label_of_edge-requires : goal.label_of_edge-requires
label_of_edge-requires c =
    let r = c.requires.minima in
    let long = minima-lengths r.0 c.args.tree.now c.args.minima.now r.1.1.0 r.1.1.1 in
    let low = maker-below r.0 c.args.tree.now (c.args.i - c.args.tree.now.leaves) c.maker.result r.1.1.0 c.maker.ensures in
    omega (arith, long.1, low)

pub returns-then-i-leaves-clause-label : goal.returns-then-i-leaves-clause-label
returns-then-i-leaves-clause-label c =
    let t = c.args.tree.now in
    let m = c.args.minima.now in
    sym (cond-true (nat_lt c.args.i t.leaves) (get_or m.vertices c.args.i 0) _ (lt-ltb c.args.i t.leaves (omega (arith, c.if-i-leaves.true, c.leaves.ensures.value)))
    ∙ get_or_from_slice_get m.vertices c.args.i c.label_of_vertex.result 0 c.label_of_vertex.ensures)

pub returns-else-i-leaves-clause-label : goal.returns-else-i-leaves-clause-label
returns-else-i-leaves-clause-label c =
    let t = c.args.tree.now in
    let m = c.args.minima.now in
    sym (cond-false (nat_lt c.args.i t.leaves) _ _ (le-ltb c.args.i t.leaves (omega (arith, c.if-i-leaves.false, c.leaves.ensures.value)))
    ∙ ap (λ (k : ℕ). get_or m.edges k 0) (maker-is t c.args.i c.maker.result c.maker.ensures)
    ∙ get_or_from_slice_get m.edges c.maker.result c.label_of_edge.result 0 c.label_of_edge.ensures)

pub returns-then-i-leaves-clause-few : goal.returns-then-i-leaves-clause-few
returns-then-i-leaves-clause-few c =
    let r = c.requires.minima in
    let most = by-minima (λ t m. c.args.i < length t.parents → node_label t m c.args.i ≤ m.count) c.args.tree.now c.args.minima.now r (λ hi. node_label-most r.0 r.1.0 c.args.i hi) c.requires.within in
    subst (λ (k : ℕ). k ≤ c.args.minima.now.count) (sym (returns-then-i-leaves-clause-label c)) most

pub returns-else-i-leaves-clause-few : goal.returns-else-i-leaves-clause-few
returns-else-i-leaves-clause-few c =
    let r = c.requires.minima in
    let most = by-minima (λ t m. c.args.i < length t.parents → node_label t m c.args.i ≤ m.count) c.args.tree.now c.args.minima.now r (λ hi. node_label-most r.0 r.1.0 c.args.i hi) c.requires.within in
    subst (λ (k : ℕ). k ≤ c.args.minima.now.count) (sym (returns-else-i-leaves-clause-label c)) most
