use Rattle.std.proofs.Common.{◌≡◌, length, refl, arith}
use Rattle.std.specs.Prelude.{vec_len}
use Rattle.partition_tree.proofs.parents.parents.Goals as goal

pub returns : goal.returns
returns g c =
    let all : vec_len c.args.numbering.now.made ≡ length c.args.numbering.now.made.items = omega arith in
    rw (c.in_ok-push_inner_parents.ensures, c.in_ok-parents.ensures, all) refl
