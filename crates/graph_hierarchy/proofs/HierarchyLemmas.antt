-- The order and the tree of a graph over a plan of it.
use Rattle.std.proofs.Common.{◌≡◌, ℕ, ◌*◌, length, Ok, Err, refl, sym, ap, ◌∙◌, subst, arith}
use Rattle.std.proofs.lemmas.List.FromFn.{length-map-range_with_len}
use Rattle.edge_order.specs.Order.{EdgeOrder, order_of}
use Rattle.edge_laws.specs.Edges.{EdgeList}
use Rattle.hg_base.specs.Graph.{WeightedGraph, IsGraph}
use Rattle.tree_laws.specs.Levels.{AltitudesRise}
use Rattle.edge_laws.specs.Rank.{listed, number_at, ranked}
use Rattle.tree_laws.specs.Tree.{ParentTree, graph_tree}
use Rattle.edge_laws.proofs.Ranked.{AreApart-ranked, AreByWeight-ranked}
use Rattle.merge_board.specs.Seats.{ReceiptState}
use Rattle.partition_tree.specs.TreeLists.{IsWellFormed}
use Rattle.partition_tree.proofs.TreeLemmas.{tree-rises}
use Rattle.tile_plan.specs.Plan.{IsAnswer, TilePlan, tile_count}
use Rattle.tile_plan.specs.declared.fault.PlanFault.{PlanFault}
use Rattle.tile_plan.specs.declared.fault.PlanFault.TheVariants as plans
use Rattle.graph_hierarchy.specs.Hierarchies.{IsHierarchyMade, IsHierarchyOf, IsTreeOf, hierarchy_fault}
use Rattle.graph_hierarchy.specs.Tilings.{AreTiles, plan_order, plan_in, receipt_in, receipt_over}
use Rattle.graph_hierarchy.specs.declared.fault.HierarchyFault.{HierarchyFault}
use Rattle.graph_hierarchy.specs.declared.hierarchy.GraphHierarchy.{GraphHierarchy}
use Rattle.graph_hierarchy.specs.declared.tiling.Tiling.{Tiling}
use Rattle.graph_hierarchy.specs.declared.tiling.Tiling.TheVariants.{Blocks, Squares}

-- the tree of a graph
pub tree_is : (g : WeightedGraph) (t : ParentTree) → IsGraph g → t ≡ graph_tree g → IsWellFormed t → IsTreeOf g t
tree_is g t graph same forest = record { same = same; well_formed = forest; rises = subst AltitudesRise (sym same) (tree-rises g.n (ranked g) (AreApart-ranked g) (AreByWeight-ranked g)); graph = graph }

-- the plan of a graph is over its vertices and its ranked edges
order-own : (g : WeightedGraph) (tiling : Tiling) → AreTiles tiling g.n → order_of g ≡ plan_order (plan_in g tiling)
order-own g (Blocks size) are = let one : g.n ≡ g.n * 1 = omega arith in ap (λ (n : ℕ). record { n = n; edges = ranked g }) one
order-own g (Squares width height side) are = ap (λ (n : ℕ). record { n = n; edges = ranked g }) (sym are.1)

pub order_over : (g : WeightedGraph) (tiling : Tiling) (order : EdgeOrder) (plan : TilePlan) → AreTiles tiling g.n → order ≡ order_of g → IsAnswer (plan_in g tiling) (Ok plan) → order ≡ plan_order plan
order_over g tiling order plan are same answer = same ∙ order-own g tiling are ∙ ap plan_order (sym answer.0)

-- its edges are as many as the graph's
edges-own : (g : WeightedGraph) (tiling : Tiling) → length (plan_in g tiling).edges ≡ length g.edges
edges-own g (Blocks size) = length-map-range_with_len (λ k. listed g k (number_at g k)) 0 (length g.edges)
edges-own g (Squares width height side) = length-map-range_with_len (λ k. listed g k (number_at g k)) 0 (length g.edges)

-- so the receipt of the plan's board is that of the graph in these tiles
receipt-own : (g : WeightedGraph) (tiling : Tiling) (workers : ℕ) (plan : TilePlan) → plan ≡ plan_in g tiling → receipt_over plan workers ≡ receipt_in g tiling workers
receipt-own g tiling workers plan same =
    ap (λ (p : TilePlan). receipt_over p workers) same
    ∙ ap (λ (m : ℕ). record { tiles = tile_count (plan_in g tiling); workers = workers; edges = m }) (edges-own g tiling)

-- order, tree and receipt that were made over a plan
pub hierarchy_is : (g : WeightedGraph) (tiling : Tiling) (workers : ℕ) (plan : TilePlan) (made : GraphHierarchy) → IsAnswer (plan_in g tiling) (Ok plan) → made.order ≡ order_of g → IsTreeOf g made.tree
    → made.receipt ≡ receipt_over plan workers → IsHierarchyOf g tiling workers made
hierarchy_is g tiling workers plan made answer order tree receipt =
    record { order = order; tree = tree; receipt = receipt ∙ receipt-own g tiling workers plan answer.0; few = answer.1 }

-- a plan that couldn't be made
pub hierarchy_refused : (g : WeightedGraph) (tiling : Tiling) (workers : ℕ) (why : PlanFault) (fault : HierarchyFault) → IsAnswer (plan_in g tiling) (Err why) → fault ≡ hierarchy_fault why
    → IsHierarchyMade g tiling workers (Err fault)
hierarchy_refused g tiling workers (plans.TooManyTiles count) fault answer is = subst (λ (f : HierarchyFault). IsHierarchyMade g tiling workers (Err f)) (sym is) answer
hierarchy_refused g tiling workers plans.OutOfMemory fault answer is = subst (λ (f : HierarchyFault). IsHierarchyMade g tiling workers (Err f)) (sym is) tt
