use Rattle.std.proofs.Common.{◌≡◌, length, refl, arith}
use Rattle.std.specs.Prelude.{vec_len}
use Rattle.partition_tree.proofs.parents.fill.Goals as goal

pub returns : goal.returns
returns g c =
    let all : vec_len c.args.numbering.now.made ≡ length c.args.numbering.now.made.items = omega arith in
    rw (c.fill_leaves.ensures, c.fill_inner.ensures, all) refl
