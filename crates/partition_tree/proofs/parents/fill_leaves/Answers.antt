use Rattle.std.proofs.Common.{◌≡◌, ◌∙◌, length, sym, arith}
use Rattle.std.proofs.lemmas.List.FromFn.{fill_by_all}
use Rattle.partition_tree.specs.CellNodes.{leaf_parent}
use Rattle.partition_tree.proofs.parents.fill_leaves.Goals as goal

pub returns : goal.returns
returns g c =
    let long : length c.par_for_each_mut.new.s ≡ g.E.Edges.vertices c.args.edges.now = omega (arith, c.par_for_each_mut.auto.s, c.requires.all) in
    fill_by_all (leaf_parent (g.E.Edges.place_at c.args.edges.now) c.args.part.now.region c.args.numbering.now.numbers.items) c.par_for_each_mut.new.s (g.E.Edges.vertices c.args.edges.now) 0 long
    (λ k lt. let at = (c.par_for_each_mut.ensures k 0 (omega (arith, lt, c.requires.all))).1 in sym at.left ∙ at.call)
