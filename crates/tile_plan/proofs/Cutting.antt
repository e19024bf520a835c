-- The tree of merges of a plan cuts its grid; in blocks the tiles stand in one row.
use Rattle.std.proofs.Common.{◌≡◌, ℕ, ◌-◌, ◌/◌, ◌%◌, ◌<◌, ◌≤◌, true, false, inl, inr, sym, ◌∙◌, ap, subst, arith}
use Rattle.std.proofs.Math.Nat.{mod-eq_of_lt, div-eq_of_lt, zero-div}
use Rattle.std.proofs.lemmas.Bool.{cases_lt}
use Rattle.hg_base.specs.Graph.{WeightedGraph}
use Rattle.tile_plan.specs.Merges.{MergeTree, Tile, Merge, half, IsCut, tile_at}
use Rattle.tile_plan.specs.Sites.{SitedPart}
use Rattle.tile_plan.specs.Grids.{grid_tree}
use Rattle.tile_plan.specs.TiledPictures.{grid_in, home_in}
use Rattle.tile_plan.specs.Plan.{TilePlan, IsPlan, blocks, grid_of, home, part, root}
use Rattle.tile_plan.specs.declared.frame.Frame.{Frame}
use Rattle.tile_plan.proofs.Cuts.{tiles-cut}
use Rattle.tile_plan.proofs.Descents.{lt-true, lt-false}
use Rattle.tile_plan.proofs.Laying.{grid_tree-is, grid-columns, grid-rows, block-few, vertex-column}
use Rattle.tile_plan.proofs.Parents.{root-part}

-- the tree of the root cuts the grid
pub root-cut : (p : TilePlan) → IsPlan p → IsCut (grid_of p).columns (grid_of p).rows (part p (root p)).tree
root-cut p h =
    subst (IsCut (grid_of p).columns (grid_of p).rows) (sym (ap (λ (q : SitedPart). q.tree) (root-part p h)))
    (grid_tree-is (grid_of p) (grid-columns p.frame h.frame) (grid-rows p.frame h.frame))

-- in one row the tiles are numbered by their columns
row-tile : (c : ℕ) (t : MergeTree) (k : ℕ) → IsCut c 1 t → k < c → tile_at t k 0 ≡ k
row-tile c Tile k h l = let one : c ≡ 1 = h.0 in omega (arith, one)
row-tile c (Merge true m x y) k h l =
    let more : 2 ≤ c = h.0.0 in
    let cut : m ≡ half c = h.0.1.1.1 in
    let count = tiles-cut (half c) 1 x h.1.0 in
    elim (cases_lt k m) [
      | inl low ↦ rw (lt-true k m low) (row-tile (half c) x k h.1.0 (omega (arith, cut)))
      | inr high ↦ (let rest = row-tile (c - half c) y (k - m) h.1.1 (omega (arith, cut)) in rw (lt-false k m high) (omega (arith, count, rest, cut)))
    ]
row-tile c (Merge false m x y) k h l = absurd (let some : 1 ≤ c = h.0.0 in let less : c < 1 = h.0.1.0 in omega (arith, some, less))

-- in blocks of `size` vertices vertex v is in tile v / size
pub blocks-home : (g : WeightedGraph) (size v : ℕ) → IsPlan (blocks g size) → v < g.n → home (blocks g size) v ≡ v / size
unfolding home_in
blocks-home g size v h l =
    let f : Frame = (blocks g size).frame in
    let tree = grid_tree (grid_in f) in
    let column : v % g.n ≡ v = mod-eq_of_lt l in
    let row : v / g.n / size ≡ 0 = ap (λ (z : ℕ). z / size) (div-eq_of_lt l) ∙ zero-div size in
    let some = grid-rows f h.frame in
    let one : (grid_in f).rows ≡ 1 = omega (arith, some, block-few 1 size h.frame.side) in
    let cut = subst (λ (r : ℕ). IsCut (grid_in f).columns r tree) one (grid_tree-is (grid_in f) (grid-columns f h.frame) some) in
    let below = subst (λ (z : ℕ). z / size < (grid_in f).columns) column (vertex-column f v h.frame) in
    ap (λ (z : ℕ). tile_at tree (z / size) (v / g.n / size)) column ∙ ap (tile_at tree (v / size)) row ∙ row-tile (grid_in f).columns tree (v / size) cut below
