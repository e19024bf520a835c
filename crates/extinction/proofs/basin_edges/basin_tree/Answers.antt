use Rattle.std.proofs.Common.{◌≡◌, ℕ, ◌≤◌, List, sym, ◌∙◌, ap, subst, length}
use Rattle.std.proofs.lemmas.List.{length-map}
use Rattle.hg_base.specs.Labels.{Labelling}
use Rattle.edge_laws.specs.Edges.{ListedEdge, joins}
use Rattle.edge_laws.specs.Rank.{ranked}
use Rattle.tree_laws.specs.Tree.{ParentTree, tree_of}
use Rattle.partition_tree.specs.declared.list.Ranked.{Ranked}
use Rattle.partition_tree.specs.Ranked.{IsRankedList, edges_of}
use Rattle.partition_tree.proofs.ListLemmas.{edges-apart, edges-within, edges-by_weight}
use Rattle.extinction.specs.Basins.{AreGrounded, AreBetween, basin, IsBasinTree}
use Rattle.extinction.specs.HierarchicalWatershed.{persistence_edges}
use Rattle.extinction.specs.Persistence.{persistences_of}
use Rattle.extinction.proofs.HierarchyBasins.{labels-long, basins-some, basins-few, hierarchy-grounded}
use Rattle.extinction.proofs.LevelZero.{persistences-length}
use Rattle.extinction.proofs.PersistenceTree.{told}
use Rattle.extinction.proofs.basin_edges.basin_tree.Goals as goal

pub basin_list-requires-clause-labels : goal.basin_list-requires-clause-labels
basin_list-requires-clause-labels c = ap (λ (l : Labelling). length l.labels) c.requires.labels ∙ labels-long c.args.graph.now

pub basin_list-requires-clause-some_basin : goal.basin_list-requires-clause-some_basin
basin_list-requires-clause-some_basin c = subst (λ (l : Labelling). 1 ≤ l.count) (sym c.requires.labels) (basins-some c.args.graph.now c.keeps_its_rules.ensures.graph)

pub basin_list-requires-clause-basins : goal.basin_list-requires-clause-basins
basin_list-requires-clause-basins c = subst (λ (l : Labelling). l.count ≤ 1048576) (sym c.requires.labels) (basins-few c.args.graph.now c.keeps_its_rules.ensures.graph)

pub basin_list-requires-clause-one_each : goal.basin_list-requires-clause-one_each
basin_list-requires-clause-one_each c =
    let g = c.args.graph.now in
    ap length c.requires.persistences
    ∙ persistences-length g c.args.kind ∙ sym (length-map (joins (ranked g)) (λ (x : ListedEdge). x.number)) ∙ ap (λ (t : ParentTree). length t.makers) (sym c.requires.tree)

pub basin_list-requires-clause-inside : goal.basin_list-requires-clause-inside
basin_list-requires-clause-inside c =
    let g = c.args.graph.now in
    subst (λ (xs : List ℕ). AreGrounded g.n (basin c.args.labels.now) (persistence_edges (ranked g) xs)) (sym c.requires.persistences)
    (subst (λ (l : Labelling). AreGrounded g.n (basin l) (persistence_edges (ranked g) (persistences_of g c.args.kind))) (sym c.requires.labels) (hierarchy-grounded g c.keeps_its_rules.ensures.graph c.args.kind))

pub of_list-requires : goal.of_list-requires
of_list-requires c =
    subst (λ (n : ℕ). IsRankedList n c.deref.result.now) (sym c.count.ensures)
    (subst (λ (xs : List Ranked). IsRankedList c.args.labels.now.count xs) (sym c.deref.ensures.value) c.in_ok-list.ensures.ranked_list)

-- the tree that was made is that of the list
pub returns : goal.returns
returns c =
    let g = c.args.graph.now in
    let l = c.args.labels.now in
    let list = c.in_ok-list.list.items in
    let fit = c.in_ok-list.ensures.ranked_list in
    told c.of_list.result (λ t. t ≡ tree_of c.count.result (edges_of c.deref.result.now)) (λ t. IsBasinTree g c.args.kind l t)
    (λ t made. record {
      edges = edges_of list;
      tree = made ∙ ap (λ (n : ℕ). tree_of n (edges_of c.deref.result.now)) c.count.ensures ∙ ap (λ (xs : List Ranked). tree_of l.count (edges_of xs)) c.deref.ensures.value;
      apart = edges-apart list;
      within = edges-within l.count list fit;
      by_weight = edges-by_weight l.count list fit;
      between = subst (λ (xs : List ℕ). AreBetween (basin l) (persistence_edges (ranked g) xs) (edges_of list)) c.requires.persistences c.in_ok-list.ensures.between;
    })
    c.of_list.ensures.tree
