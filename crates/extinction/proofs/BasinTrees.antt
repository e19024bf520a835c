-- Trees of edge lists: the roots of vertices that are joined, and the altitudes of lowest common ancestors.
use Rattle.std.proofs.Common.{◌≡◌, ℕ, suc, ◌<◌, ◌≤◌, Bool, true, inl, inr, refl, arith, [], length}
use Rattle.std.specs.Prelude.{◌==◌, ◌&&◌}
use Rattle.std.proofs.lemmas.Bool.{cases_order, both_ways, and_from, and_parts, eqb-true, eq-eqb}
use Rattle.hg_base.proofs.Leasts.{FirstOf, first_of}
use Rattle.edge_laws.specs.Edges.{EdgeList, AreApart, AreWithin, joined}
use Rattle.edge_laws.specs.Saliency.{at_most, AreByWeight, IsLeastJoining}
use Rattle.edge_laws.proofs.Walks.{Joined-joined}
use Rattle.tree_laws.specs.Tree.{ParentTree, tree_of, IsAbove, IsLowestAbove}
use Rattle.tree_laws.proofs.Levels.{level-tree}
use Rattle.tree_laws.proofs.Meeting.{lowest-weight}
use Rattle.partition_tree.specs.Paths.{Rises, ShareRoot, stop}
use Rattle.partition_tree.proofs.PathLemmas.{common-shares, stop-decides, well_formed-rises}
use Rattle.partition_tree.proofs.TreeLemmas.{tree-well_formed}
use Rattle.saliency.specs.Values.{IsLowestAltitude}
use Rattle.extinction.proofs.BasinLaws.{least-one}

-- an edge list over n vertices of which a tree can be made
pub record IsTreeList (n : ℕ) (s : EdgeList) : Type 0 where
  pub some : 1 ≤ n
  pub few : n ≤ 1048576
  pub apart : AreApart s
  pub within : AreWithin n s
  pub by_weight : AreByWeight s

-- vertices that the edges of weight at most k join are below one root
pub joined-shares : (n : ℕ) (s : EdgeList) → IsTreeList n s → (k x y : ℕ) → x < n → y < n → joined (at_most s k) x y ≡ true → ShareRoot (tree_of n s) x y
joined-shares n s t k x y hx hy j =
    let forest = tree-well_formed n s t.some t.few t.apart t.within in
    let above = (level-tree n s t.apart t.within t.by_weight).one_above k x hx in
    let few : n ≤ length (tree_of n s).parents = (let each = forest.one_maker_each in omega arith) in
    common-shares (tree_of n s) forest x y above.0 (omega (arith, few, hx)) (above.1.1 x hx ([], refl), above.1.1 y hy (Joined-joined (at_most s k) x y j))

-- below one root two nodes have a lowest common ancestor
pub lowest-found : (t : ParentTree) → Rises t → (a b : ℕ) → ShareRoot t a b → (i : ℕ) × IsLowestAbove t a b i
lowest-found t rises a b share = (
  found.at,
  record {
    first = (stop-decides t rises a found.at).1 (eqb-true (stop t a found.at) found.at passed.0);
    second = (stop-decides t rises b found.at).1 (eqb-true (stop t b found.at) found.at passed.1);
    lowest = λ j ja jb. elim (cases_order found.at j) [
      | inl level ↦ omega arith
      | inr other ↦ elim other [
        | inl low ↦ omega arith
        | inr high ↦ absurd (both_ways _ (found.before j (omega arith) high) (above j ja jb))
      ]
    ];
  },
)
  where
    both : ℕ → Bool
    both i = (stop t a i == i) && (stop t b i == i)

    above : (i : ℕ) → IsAbove t i a → IsAbove t i b → both i ≡ true
    above i ia ib = and_from (stop t a i == i) (stop t b i == i) (eq-eqb (stop t a i) i ((stop-decides t rises a i).0 ia)) (eq-eqb (stop t b i) i ((stop-decides t rises b i).0 ib))

    found : FirstOf both 0 (suc share.0)
    found = first_of both 0 (suc share.0) share.0 (omega arith) (omega arith) (above share.0 share.1.0.above share.1.1.above)

    passed : (stop t a found.at == found.at ≡ true) × (stop t b found.at == found.at ≡ true)
    passed = and_parts (stop t a found.at == found.at) (stop t b found.at == found.at) found.passes

-- its altitude is the least k such that the edges of weight at most k join the two
pub lowest-altitude : (n : ℕ) (s : EdgeList) → IsTreeList n s → (x y k : ℕ) → x < n → y < n → ShareRoot (tree_of n s) x y → IsLeastJoining s x y k → IsLowestAltitude (tree_of n s) x y k
lowest-altitude n s t x y k hx hy share least =
    let i = lowest-found (tree_of n s) (well_formed-rises (tree_of n s) (tree-well_formed n s t.some t.few t.apart t.within)) x y share in
    (i.0, (i.1, least-one s x y _ k (lowest-weight n s t.apart t.by_weight x y i.0 hx hy i.1) least))
