-- Tiles that are too many, and faults that come before others.
use Rattle.std.proofs.Common.{◌≡◌, ℕ, ◌*◌, ◌<◌, ◌≤◌, length, Option, Some, None, Err, refl, sym, ap, ◌∙◌, subst}
use Rattle.std.proofs.lemmas.Bool.{lt-ltb, le-ltb}
use Rattle.graph_hierarchy.specs.Hierarchies.{IsHierarchyMade, IsHierarchyOf}
use Rattle.graph_hierarchy.specs.Tilings.{receipt_in}
use Rattle.graph_hierarchy.specs.declared.fault.HierarchyFault.{HierarchyFault}
use Rattle.graph_hierarchy.specs.declared.fault.HierarchyFault.TheVariants as hierarchies
use Rattle.graph_hierarchy.specs.declared.hierarchy.GraphHierarchy.{GraphHierarchy}
use Rattle.graph_hierarchy.specs.declared.tiling.Tiling.{Tiling}
use Rattle.graph_hierarchy.specs.declared.tiling.Tiling.TheVariants.{Squares}
use Rattle.hg_base.specs.Graph.{WeightedGraph}
use Rattle.hg_base.specs.declared.fault.InputFault.{InputFault}
use Rattle.hg_base.specs.declared.fault.FaultKind.TheVariants.{TooManyTiles}
use Rattle.merge_board.specs.Seats.{ReceiptState}
use Rattle.pgm_reader.specs.Raster.{Raster}
use Rattle.higra_input.specs.Inputs.{input_graph}
use Rattle.higra_report.specs.Planning.{IsMadeIn, IsPlanned, report_fault}
use Rattle.higra_report.specs.Reports.{◌before◌, request_receipt, tile_fault, request_tiles}
use Rattle.higra_input.specs.declared.input.Input.TheVariants.{Picture}
use Rattle.higra_words.specs.declared.request.Request.{Request}
use Rattle.higra_report.specs.declared.fault.ReportFault.{ReportFault}

-- up to 65,536 tiles are no fault
few_tiles : (count : ℕ) → count ≤ 65536 → tile_fault count ≡ None
unfolding tile_fault
few_tiles count few = rw (le-ltb _ _ few) refl

abbrev too_many : ℕ → InputFault
too_many count = record { kind = TooManyTiles; at = 0; value = count }

-- more are
many_tiles : (count : ℕ) → 65536 < count → tile_fault count ≡ Some (too_many count)
unfolding tile_fault
many_tiles count many = rw (lt-ltb _ _ many) refl

-- order and tree that were made
pub planned_is : (g : WeightedGraph) (tiling : Tiling) (workers : ℕ) (made : GraphHierarchy) → IsHierarchyOf g tiling workers made → IsMadeIn g tiling workers made
planned_is g tiling workers made is = record { own = is; few = few_tiles _ is.few }

-- a tree that couldn't be made
pub plan_refused : (g : WeightedGraph) (tiling : Tiling) (workers : ℕ) (why : HierarchyFault) (fault : ReportFault) → IsHierarchyMade g tiling workers (Err why) → fault ≡ report_fault why → IsPlanned g tiling workers (Err fault)
plan_refused g tiling workers (hierarchies.TooManyTiles count) fault answer is =
    subst (λ (f : ReportFault). IsPlanned g tiling workers (Err f)) (sym is) (many_tiles _ answer.1 ∙ ap (λ (n : ℕ). Some (too_many n)) (sym answer.0))
plan_refused g tiling workers hierarchies.OutOfMemory fault answer is = subst (λ (f : ReportFault). IsPlanned g tiling workers (Err f)) (sym is) tt

-- the receipt of a graph with as many edges as a picture's is that of the request
pub receipt_squares : (request : Request) (r : Raster) (g : WeightedGraph) (receipt : ReceiptState) → receipt ≡ receipt_in g (Squares r.width r.height request.tile) request.workers → length g.edges ≡ length (input_graph (Picture r)).edges
    → receipt ≡ request_receipt request (Picture r)
receipt_squares request r g receipt is same = is ∙ ap (λ (m : ℕ). record { tiles = request_tiles request (Picture r); workers = request.workers; edges = m }) same

-- where the first fault isn't there, the second is the one
pub before_none : (a b c : Option InputFault) → a ≡ None → b ≡ c → (a before b) ≡ c
before_none a b c none same = ap (λ (o : Option InputFault). o before b) none ∙ same

-- the first fault is the one where it is there
pub before_some : (a b : Option InputFault) (fault : InputFault) → a ≡ Some fault → (a before b) ≡ Some fault
before_some a b fault some = ap (λ (o : Option InputFault). o before b) some

-- the graph of a picture has its pixels as vertices
pub pixels_in : (r : Raster) (g : WeightedGraph) → g ≡ input_graph (Picture r) → r.width * r.height ≡ g.n
pixels_in r g same = ap (λ (h : WeightedGraph). h.n) (sym same)

-- and as many edges
pub edges_in : (r : Raster) (g : WeightedGraph) → g ≡ input_graph (Picture r) → length g.edges ≡ length (input_graph (Picture r)).edges
edges_in r g same = ap (λ (h : WeightedGraph). length h.edges) same
