-- The numbering of a part to which the edges of a list were given is the list's tree.
use Rattle.std.proofs.Common.{◌≡◌, ℕ, sym, ◌∙◌, subst, ap, arith, List, ◌++◌, length, map}
use Rattle.std.specs.Prelude.{replicate}
use Rattle.std.specs.List.{range_with_len}
use Rattle.edge_laws.specs.Edges.{ListedEdge, next}
use Rattle.tree_laws.specs.Tree.{ParentTree, tree_of, node_or}
use Rattle.node_region.specs.Pool.{leaf_of, count}
use Rattle.border_climb.specs.Stands.{PartState, Stands}
use Rattle.partition_tree.specs.declared.list.Ranked.{Ranked}
use Rattle.partition_tree.specs.TreeLists.{IsWellFormed, lists_of}
use Rattle.partition_tree.specs.Ranked.{IsRankedList, edge_at, edges_of}
use Rattle.partition_tree.specs.CellNodes.{AreCells, AreListsOfPart, node_above, inner_parent}
use Rattle.partition_tree.proofs.TreeLemmas.{tree-well_formed}
use Rattle.partition_tree.proofs.CellNodeLaws.{Stands-cells, IsNumbering, numbering-of, leaf-parents, inner-parents, inner-values}
use Rattle.partition_tree.proofs.ListLemmas.{edges-apart, edges-low, edges-own, edges-within}

-- a part to which the edges of the list were given, with places from 0 on
pub record IsGiven (part : PartState) (list : List Ranked) : Type 0 where
  pub first : part.region.first ≡ 0
  pub list_of : IsRankedList (count part.region) list
  pub stands : Stands part (edges_of list)

pub given-cells : (part : PartState) (list : List Ranked) → IsGiven part list → AreCells part (length list)
given-cells part list g = Stands-cells part (edges_of list) (length list) g.stands g.first g.list_of.vertices (edges-low list)

-- the lists that were made of the part are those of the list's tree
pub drawn-list : (part : PartState) (list : List Ranked) (n : ℕ) (parents altitudes makers : List ℕ) → IsGiven part list → n ≡ count part.region →
    AreListsOfPart part n (length list) (λ v. v) (λ r. (edge_at list r).weight) (λ r. (edge_at list r).number) parents altitudes makers → lists_of n parents altitudes makers ≡ tree_of (count part.region) (edges_of list)
drawn-list part list n parents altitudes makers g is m =
    ap (λ (x : ℕ). lists_of x parents altitudes makers) is
    ∙ ap (λ (l : List ℕ). lists_of (count part.region) l altitudes makers) p
    ∙ ap (λ (l : List ℕ). lists_of (count part.region) (tree_of (count part.region) (edges_of list)).parents l makers) a
    ∙ ap (λ (l : List ℕ). lists_of (count part.region) (tree_of (count part.region) (edges_of list)).parents (tree_of (count part.region) (edges_of list)).altitudes l) k
  where
    w : IsNumbering part (edges_of list) (count part.region) m.made m.numbers
    w = numbering-of part (edges_of list) (count part.region) (length list) m.cells m.made m.numbers g.stands (edges-low list) m.by_rank m.made_is m.numbers_of

    p : parents ≡ (tree_of (count part.region) (edges_of list)).parents
    p =
        m.parents_are
        ∙ ap (λ (x : ℕ). map (λ v. node_above m.numbers v (leaf_of part.region v)) (range_with_len 0 x) ++ map (inner_parent (count part.region) part.region m.made m.numbers) (range_with_len 0 (length m.made))) is
        ∙ ap (λ (l : List ℕ). l ++ map (inner_parent (count part.region) part.region m.made m.numbers) (range_with_len 0 (length m.made)))
        (leaf-parents part (edges_of list) (count part.region) (λ v. v) m.made m.numbers w (λ v lt. let f : part.region.first ≡ 0 = g.first in (omega arith, omega arith)))
        ∙ ap (λ (l : List ℕ). map (λ v. node_or (count part.region) (edges_of list) v (next (edges_of list) v 0)) (range_with_len 0 (count part.region)) ++ l)
        (inner-parents part (edges_of list) (count part.region) m.made m.numbers w)

    a : altitudes ≡ (tree_of (count part.region) (edges_of list)).altitudes
    a =
        m.altitudes_are ∙ ap (λ (l : List ℕ). replicate (count part.region) 0 ++ l)
        (inner-values part (edges_of list) (count part.region) m.made m.numbers w (λ r. (edge_at list r).weight) (λ e. e.weight) (λ e i. ap (λ (x : ListedEdge). x.weight) (edges-own list e i)))

    k : makers ≡ (tree_of (count part.region) (edges_of list)).makers
    k = m.makers_are ∙ inner-values part (edges_of list) (count part.region) m.made m.numbers w (λ r. (edge_at list r).number) (λ e. e.number) (λ e i. ap (λ (x : ListedEdge). x.number) (edges-own list e i))

-- a well-formed tree
pub made-forest : (part : PartState) (list : List Ranked) → IsGiven part list → (t : ParentTree) → t ≡ tree_of (count part.region) (edges_of list) → IsWellFormed t
made-forest part list g t is =
    subst IsWellFormed (sym is) (tree-well_formed (count part.region) (edges_of list) g.list_of.some_vertex g.list_of.vertices (edges-apart list) (edges-within (count part.region) list g.list_of))
