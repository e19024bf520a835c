-- Plans of a graph by its tiles.
use Rattle.std.specs.Prelude.{◌≡◌, ℕ, ◌*◌, ◌≤◌, length}
use Rattle.edge_order.specs.Order.{EdgeOrder}
use Rattle.hg_base.specs.Graph.{WeightedGraph}
use Rattle.merge_board.specs.Seats.{ReceiptState}
use Rattle.tile_plan.specs.Plan.{TilePlan, blocks, squares, tile_count, vertices}
use Rattle.graph_hierarchy.specs.declared.tiling.Tiling.{Tiling}
use Rattle.graph_hierarchy.specs.declared.tiling.Tiling.TheVariants.{Blocks, Squares}

-- these are tiles of so many vertices: each has a vertex, and squares are of a picture with as many pixels
abbrev pub AreTiles : Tiling → ℕ → Type 0
AreTiles (Blocks size) n = 1 ≤ size
AreTiles (Squares width height side) n = (1 ≤ side) × (width * height ≡ n)

-- the plan of a graph in these tiles
abbrev pub plan_in : WeightedGraph → Tiling → TilePlan
plan_in g (Blocks size) = blocks g size
plan_in g (Squares width height side) = squares g width height side

-- the order of a plan's edges, beside the number of its vertices
abbrev pub plan_order : TilePlan → EdgeOrder
plan_order p = record { n = vertices p; edges = p.edges }

-- the receipt of a plan's board of so many workers
abbrev pub receipt_over : TilePlan → ℕ → ReceiptState
receipt_over p workers = record { tiles = tile_count p; workers = workers; edges = length p.edges }

-- the receipt of a graph in these tiles, by so many workers: how many tiles there are, the workers, and how many edges
-- the graph has
abbrev pub receipt_in : WeightedGraph → Tiling → ℕ → ReceiptState
receipt_in g tiling workers = record { tiles = tile_count (plan_in g tiling); workers = workers; edges = length g.edges }
