-- The least cut in the words of the definitions.
use Rattle.std.proofs.Common.{◌≡◌, ℕ, ◌<◌, true, arith, List, [], refl, length}
use Rattle.std.specs.Prelude.{◌&&◌}
use Rattle.std.proofs.lemmas.Bool.{and_parts, and_from}
use Rattle.edge_laws.specs.Edges.{EdgeList, AreApart, AreWithin}
use Rattle.hg_base.specs.Lists.{IsIn}
use Rattle.tree_laws.specs.Tree.{ParentTree, IsAbove, tree_of}
use Rattle.tree_laws.specs.Levels.{is_above}
use Rattle.tree_laws.proofs.FrontOnce.{front-tree}
use Rattle.tree_laws.proofs.Tops.{is_above-from, is_above-to}
use Rattle.partition_tree.specs.TreeLists.{IsWellFormed}
use Rattle.partition_tree.proofs.WellFormed.{well_formed-climbs, well_formed-leaves}
use Rattle.energy_cut.specs.Cuts.{IsLeastCut, least_cut_of}
use Rattle.energy_cut.specs.Regions.{in_one_region}
use Rattle.partition_tree.proofs.ListTests.{any-from, any-to}
use Rattle.energy_cut.proofs.HighestKeepers.{best_nodes, best-least}
use Rattle.energy_cut.proofs.Listed.{least-found}
use Rattle.energy_cut.proofs.LeastBelow.{least_exist}

-- the least cut of the definition is a least cut
pub least-is : (t : ParentTree) (e : List ℕ) → IsWellFormed t → IsLeastCut t e (least_cut_of t e)
least-is t e f =
    let b = least_exist t f e in
    least-found t e (best_nodes t e b.0) f (best-least t e b.0 f b.1)

-- the test of one region says what it is to say
pub region-from : (t : ParentTree) → IsWellFormed t → (c : List ℕ) (x y : ℕ) → x < t.leaves → y < t.leaves → (i : ℕ) × (IsIn i c × (IsAbove t i x × IsAbove t i y)) → in_one_region t c x y ≡ true
region-from t f c x y hx hy found =
    let few = well_formed-leaves t f in
    any-from (λ i. is_above t i x && is_above t i y) found.0 c found.1.0
    (and_from _ _ (is_above-from t (well_formed-climbs t f) found.0 x (omega arith) found.1.1.0) (is_above-from t (well_formed-climbs t f) found.0 y (omega arith) found.1.1.1))

pub region-to : (t : ParentTree) (c : List ℕ) (x y : ℕ) → in_one_region t c x y ≡ true → (i : ℕ) × (IsIn i c × (IsAbove t i x × IsAbove t i y))
region-to t c x y h =
    let found = any-to (λ i. is_above t i x && is_above t i y) c h in
    let parts = and_parts _ _ found.1.1 in
    (found.0, (found.1.0, (is_above-to t found.0 x parts.0, is_above-to t found.0 y parts.1)))

-- each node of the tree of a list is above a leaf
pub leaf-below : (n : ℕ) (s : EdgeList) → AreApart s → AreWithin n s → (i : ℕ) → i < length (tree_of n s).parents → (x : ℕ) × ((x < n) × IsAbove (tree_of n s) i x)
leaf-below n s apart within i h =
    let node = (front-tree n s apart within).each_node i h in
    let x = node.1.0 in
    (x, (node.1.1.0, (node.1.1.1 x node.1.1.0).1 ([], refl)))
