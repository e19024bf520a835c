use Rattle.std.proofs.Common.{ℕ, subst, List}
use Rattle.component_tree.specs.declared.nodes.Component.{Component}
use Rattle.component_tree.specs.NodeComponents.{AreComponents, ArePlaces}
use Rattle.component_tree.proofs.ListsOfTree.{parents-whole, levels-whole, parents-few, finished}
use Rattle.component_tree.proofs.components.tree_of_nodes.Goals as goal

pub from_lists-requires-clause-few : goal.from_lists-requires-clause-few
from_lists-requires-clause-few c =
    let t = c.args.tree.now in
    let list : List Component = c.in_ok-list.list.items in
    parents-few t c.deref.result.now c.deref-2.result.now c.in_ok-places.places.items list c.push_parents.new.parents.items c.in_ok-list.ensures.well_formed c.in_ok-list.ensures.list
    (parents-whole t c.in_ok-places.places.items c.deref-5.result.now c.deref-7.result.now list c.deref-8.result.now c.in_ok-parents.parents.items c.push_parents.new.parents.items
    c.deref-5.ensures.value c.deref-7.ensures.value c.deref-8.ensures.value c.in_ok-parents.ensures c.in_ok-push_parents.ensures)

pub returns : goal.returns
returns c = λ s e same.
    let t = c.args.tree.now in
    let levels : List ℕ = c.in_ok-levels.levels.items in
    let leasts : List ℕ = c.in_ok-leasts.leasts.items in
    let list : List Component = c.in_ok-list.list.items in
    let places : List ℕ = c.in_ok-places.places.items in
    finished c.args.side c.args.values.now t s levels leasts list places c.push_parents.new.parents.items c.push_levels.new.levels.items c.leaves.result c.from_lists.result
    c.requires.fits c.in_ok-list.ensures.well_formed c.in_ok-levels.ensures.levels c.in_ok-leasts.ensures
    (subst (λ (l : List ℕ). AreComponents t l leasts list) c.deref.ensures.value (subst (λ (m : List ℕ). AreComponents t c.deref.result.now m list) c.deref-2.ensures.value c.in_ok-list.ensures.list))
    (subst (λ (l : List ℕ). ArePlaces t l list places) c.deref-3.ensures.value (subst (λ (m : List Component). ArePlaces t c.deref-3.result.now m places) c.deref-4.ensures.value c.in_ok-places.ensures))
    (parents-whole t places c.deref-5.result.now c.deref-7.result.now list c.deref-8.result.now c.in_ok-parents.parents.items c.push_parents.new.parents.items
    c.deref-5.ensures.value c.deref-7.ensures.value c.deref-8.ensures.value c.in_ok-parents.ensures c.in_ok-push_parents.ensures)
    (levels-whole c.args.side c.args.values.now t.leaves list c.deref-10.result.now c.in_ok-turned_levels.turned_levels.items c.push_levels.new.levels.items
    c.deref-10.ensures.value c.in_ok-turned_levels.ensures c.in_ok-push_levels.ensures)
    c.leaves.ensures.value c.from_lists.ensures e same
