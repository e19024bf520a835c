use Rattle.std.proofs.Common.{◌≡◌, ℕ, List, sym, ap, subst, arith, length}
use Rattle.partition_tree.specs.TreeLists.{nodes}
use Rattle.partition_tree.proofs.WellFormed.{well_formed-leaves}
use Rattle.attributes.specs.Gathering.{AreOfLeaves}
use Rattle.attributes.proofs.LeafValues.{AreFilled, filled-by, written-back, filled-fits, of-leaves}
use Rattle.attributes.proofs.gather.gathered.Goals as goal

pub gather_up-requires : goal.gather_up-requires
gather_up-requires c =
    let t = c.args.tree.now in
    let few = well_formed-leaves t c.nodes-nodes.ensures.well_formed in
    let a : AreFilled c.args.operation t.leaves (nodes t) c.args.leaves.now c.deref_mut.result.now =
    filled-by c.args.operation t.leaves (nodes t) c.nodes-nodes.result _ c.neutral.result c.args.leaves.now c.in_ok-values.values.items c.extend_from_slice.new.self.items c.resize.new.self.items c.deref_mut.result.now
    c.in_ok-values.ensures.items c.in_ok-extend_from_slice.ensures.items c.in_ok-resize.ensures.items c.deref_mut.ensures.value c.nodes-nodes.ensures.value
    c.requires.one_each few (omega (arith, c.in_ok-extend_from_slice.ensures.len, c.in_ok-values.ensures.len, c.requires.one_each, c.nodes-nodes.ensures.value)) c.neutral.ensures in
    record {
      one_each = a.one_each;
      fits = filled-fits c.args.operation t.leaves (nodes t) c.args.leaves.now c.deref_mut.result.now few a c.requires.fits;
    }

pub returns : goal.returns
returns c =
    let t = c.args.tree.now in
    let few = well_formed-leaves t c.nodes-nodes.ensures.well_formed in
    let a : AreFilled c.args.operation t.leaves (nodes t) c.args.leaves.now c.deref_mut.result.now =
    filled-by c.args.operation t.leaves (nodes t) c.nodes-nodes.result _ c.neutral.result c.args.leaves.now c.in_ok-values.values.items c.extend_from_slice.new.self.items c.resize.new.self.items c.deref_mut.result.now
    c.in_ok-values.ensures.items c.in_ok-extend_from_slice.ensures.items c.in_ok-resize.ensures.items c.deref_mut.ensures.value c.nodes-nodes.ensures.value
    c.requires.one_each few (omega (arith, c.in_ok-extend_from_slice.ensures.len, c.in_ok-values.ensures.len, c.requires.one_each, c.nodes-nodes.ensures.value)) c.neutral.ensures in
    let made : AreOfLeaves c.args.operation t c.args.leaves.now c.gather_up.new.values =
    of-leaves c.args.operation t c.args.leaves.now c.deref_mut.result.now c.gather_up.new.values c.nodes-nodes.ensures.well_formed a c.requires.fits c.gather_up.ensures in
    let whole : length c.deref_mut.result.now ≡ length c.resize.new.self.items = ap (λ (xs : List ℕ). length xs) c.deref_mut.ensures.value in
    let all : length c.deref_mut.result.now ≡ nodes t = a.one_each in
    let sums : length c.gather_up.new.values ≡ nodes t = made.one_each in
    subst (λ (xs : List ℕ). AreOfLeaves c.args.operation t c.args.leaves.now xs)
    (sym (written-back c.resize.new.self.len c.gather_up.new.values c.resize.new.self.items (omega (arith, whole, all, sums)) (omega (arith, whole, all, c.in_ok-resize.ensures.len, c.nodes-nodes.ensures.value))))
    made
