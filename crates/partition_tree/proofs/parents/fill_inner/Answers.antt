use Rattle.std.proofs.Common.{◌≡◌, ◌∙◌, length, sym, arith}
use Rattle.std.specs.Prelude.{vec_len}
use Rattle.std.proofs.lemmas.List.FromFn.{fill_by_all}
use Rattle.node_region.specs.Pool.{count}
use Rattle.partition_tree.specs.CellNodes.{inner_parent}
use Rattle.partition_tree.proofs.parents.fill_inner.Goals as goal

pub returns : goal.returns
returns g c =
    let n = vec_len c.args.numbering.now.made in
    let long : length c.par_for_each_mut.new.s ≡ n = omega (arith, c.par_for_each_mut.auto.s, c.requires.all) in
    fill_by_all (inner_parent (count c.args.part.now.region) c.args.part.now.region c.args.numbering.now.made.items c.args.numbering.now.numbers.items) c.par_for_each_mut.new.s n 0 long
    (λ k lt. let at = (c.par_for_each_mut.ensures k 0 (omega (arith, lt, c.requires.all))).1 in sym at.left ∙ at.call)
