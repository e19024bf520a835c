use Rattle.std.specs.Prelude.{Some}
use Rattle.std.proofs.Common.{◌≡◌, sym, ◌∙◌, ap, arith}
use Rattle.node_region.specs.Pool.{leaf_of}
use Rattle.partition_tree.specs.CellNodes.{node_above}
use Rattle.partition_tree.proofs.CellLemmas.{used-within}
use Rattle.partition_tree.proofs.parents.leaf_parent.Goals as goal

pub up_of_place-above-requires : goal.up_of_place-above-requires
up_of_place-above-requires g c =
    let a = c.requires.linked.cells in
    (omega (arith, a.first), omega (arith, a.first, c.place.ensures.within, c.requires.places))

pub node_or-requires : goal.node_or-requires
node_or-requires g c = λ x e.
    let a = c.requires.linked.cells in
    let link : leaf_of c.args.part.now.region c.place.result ≡ Some x = sym c.up_of_place-above.ensures.value ∙ e in
    let used = a.leafs c.place.result x (omega (arith, a.first), omega (arith, a.first, c.place.ensures.within, c.requires.places)) link in
    omega (arith, used-within c.args.part.now.region x a.first used, c.deref.ensures.len, c.requires.linked.one_each)

pub returns : goal.returns
returns g c =
    c.node_or.ensures
    ∙ ap (λ l. node_above l c.args.vertex c.up_of_place-above.result) c.deref.ensures.value
    ∙ ap (λ o. node_above c.args.numbering.now.numbers.items c.args.vertex o) (c.up_of_place-above.ensures.value ∙ ap (leaf_of c.args.part.now.region) c.place.ensures.value)
