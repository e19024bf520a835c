-- What the tables of a plan hold: its tree, its parts, the tiles of its vertices.
use Rattle.std.proofs.Common.{◌≡◌, ℕ, zero, suc, ◌+◌, ◌-◌, ◌*◌, ◌/◌, ◌%◌, ◌<◌, ◌≤◌, Bool, true, false, inl, inr, refl, sym, ◌∙◌, arith}
use Rattle.std.specs.Prelude.{◌==◌, ◌&&◌, nat_le, nat_lt, if◌then◌else◌}
use Rattle.std.specs.Int.{div_ceil}
use Rattle.std.proofs.lemmas.Bool.{cases_Bool, cases_lt, eqb-true, eq-eqb}
use Rattle.std.proofs.lemmas.Bool.Decides.{nat_tests}
use Rattle.std.proofs.lemmas.Nat.{mul-le, mul-add-lt, div-mul-add, mod-mul-add, div_below, mod_below}
use Rattle.std.proofs.lemmas.Grind.{div_ceil_times}
use Rattle.tile_plan.specs.Merges.{MergeTree, Tile, Merge, half, cut, merge_tree, IsCut, tiles, merges, tile_at}
use Rattle.tile_plan.specs.Sites.{left_site, right_site, find}
use Rattle.tile_plan.specs.Grids.{tiles_in, IsSmall, IsGridTree, row_of_part, root_of, grid_tree, part_in, tile_in, lot_number, lot_in}
use Rattle.tile_plan.specs.TiledPictures.{vertices_in, grid_in, home_in, IsFrame}
use Rattle.tile_plan.specs.declared.site.Grid.{Grid}
use Rattle.tile_plan.specs.declared.site.Site.{Site}
use Rattle.tile_plan.specs.declared.site.Row.{Row}
use Rattle.tile_plan.specs.declared.frame.Frame.{Frame}
use Rattle.tile_plan.proofs.Cuts.{tiles-cut, tiles-merges, tiles-some}
use Rattle.tile_plan.proofs.Descents.{lt-true, lt-false, le-true}

-- a product of 1 has factors of 1
one_each : (c r : ℕ) → 1 ≤ c → 1 ≤ r → c * r ≡ 1 → (c ≡ 1) × (r ≡ 1)
one_each c r hc hr e =
    let a = mul-le c 1 c r (omega arith) hr in
    let b = mul-le 1 r c r hc (omega arith) in
    (omega (arith, a, e), omega (arith, b, e))

more_than_one : (c r : ℕ) → 1 ≤ c → 1 ≤ r → (c * r == 1) ≡ false → r ≤ c → 2 ≤ c
more_than_one c r hc hr more by =
    elim (cases_lt c 2) [
      | inl low ↦ absurd (let ec : c ≡ 1 = omega arith in let er : r ≡ 1 = omega arith in
          let one : c * r ≡ 1 = rw (ec, er) refl in
          let bad : true ≡ false = sym (eq-eqb (c * r) 1 one) ∙ more in cc)
      | inr high ↦ high
    ]

-- with enough fuel the tree is that of the rectangle
pub cut-is : (fuel c r : ℕ) → 1 ≤ c → 1 ≤ r → c + r ≤ fuel → IsCut c r (cut fuel c r)
cut-is zero c r hc hr h = absurd (omega arith)
cut-is (suc fuel) c r hc hr h =
    elim (cases_Bool (c * r == 1)) [
      | inl one ↦ rw one (one_each c r hc hr (eqb-true (c * r) 1 one))
      | inr more ↦ rw more (elim (cases_Bool (nat_le r c)) [
        | inl by ↦ (let low : r ≤ c = grind (arith, nat_tests) in
            let two : 2 ≤ c = more_than_one c r hc hr more low in
            rw by (((two, (hr, (low, refl)))), (cut-is fuel (half c) r (omega arith) hr (omega arith), cut-is fuel (c - half c) r (omega arith) hr (omega arith))))
        | inr by ↦ (let low : c < r = grind (arith, nat_tests) in
            rw by ((hc, (low, refl)), (cut-is fuel c (half r) hc (omega arith) (omega arith), cut-is fuel c (r - half r) hc (omega arith) (omega arith))))
      ])
    ]

-- the tree of a grid
pub grid_tree-is : (g : Grid) → 1 ≤ g.columns → 1 ≤ g.rows → IsGridTree g (grid_tree g)
unfolding merge_tree
grid_tree-is g hc hr = cut-is (g.columns + g.rows) g.columns g.rows hc hr (omega arith)

pub grid_tree-tiles : (g : Grid) → 1 ≤ g.columns → 1 ≤ g.rows → tiles (grid_tree g) ≡ tiles_in g
grid_tree-tiles g hc hr = tiles-cut g.columns g.rows (grid_tree g) (grid_tree-is g hc hr)

-- the row of a part of the plan
pub part-row : (g : Grid) (n i : ℕ) (s : Site) (row : Row) → n ≡ tiles_in g → s ≡ root_of n → row ≡ row_of_part n (find n (grid_tree g) s i) → row ≡ row_of_part (tiles_in g) (part_in g i)
unfolding part_in
part-row g n i s row en es h = h ∙ rw (es, en) refl

-- where the edges of one tile are, and that each lot is one of a part
pub lot-same : (n : ℕ) (t : MergeTree) (s : Site) (a : ℕ) → s.first_tile ≤ a → a < s.first_tile + tiles t → lot_number n t s a a ≡ a
lot-same n Tile s a low high = omega arith
lot-same n (Merge by k x y) s a low high =
    elim (cases_lt a (s.first_tile + tiles x)) [
      | inl l ↦ rw (lt-true a (s.first_tile + tiles x) l) (lot-same n x (left_site n x y s) a low l)
      | inr l ↦ rw (lt-false a (s.first_tile + tiles x) l, le-true (s.first_tile + tiles x) a l) (lot-same n y (right_site n x y s) a l (omega arith))
    ]

pub lot-below : (n : ℕ) (t : MergeTree) (s : Site) (a b : ℕ) → s.first_tile + tiles t ≤ n → lot_number n t s a b < n + s.first_merge + merges t
lot-below n Tile s a b h = omega arith
lot-below n (Merge by k x y) s a b h =
    let lx = lot-below n x (left_site n x y s) a b (let m = tiles-some y in omega (arith, m)) in
    let ly = lot-below n y (right_site n x y s) a b (omega arith) in
    pick (nat_lt a (s.first_tile + tiles x) && nat_lt b (s.first_tile + tiles x)) (nat_le (s.first_tile + tiles x) a && nat_le (s.first_tile + tiles x) b)
    (omega (arith, lx)) (omega (arith, ly)) (omega arith)
  where
    pick : (c d : Bool) {i j k m : ℕ} → i < m → j < m → k < m → (if◌then◌else◌ c i (if◌then◌else◌ d j k)) < m
    pick true d hi hj hk = hi
    pick false true hi hj hk = hj
    pick false false hi hj hk = hk

pub lot_in-same : (g : Grid) → IsSmall g → (a b : ℕ) → a ≡ b → a < tiles_in g → a ≡ lot_in g a b
unfolding lot_in
lot_in-same g small a b e h =
    let count = grid_tree-tiles g small.columns small.rows in
    rw (← e) (sym (lot-same (tiles_in g) (grid_tree g) (root_of (tiles_in g)) a (omega arith) (omega (arith, count))))

pub lot_in-below : (g : Grid) → IsSmall g → (a b : ℕ) → lot_in g a b < 2 * tiles_in g - 1
unfolding lot_in
lot_in-below g small a b =
    let count = grid_tree-tiles g small.columns small.rows in
    let l = lot-below (tiles_in g) (grid_tree g) (root_of (tiles_in g)) a b (omega (arith, count)) in
    let m = tiles-merges (grid_tree g) in
    omega (arith, l, count, m)

-- the tile at a place of the grid, from the tile at its column and row
pub tile-read : (g : Grid) (i tile : ℕ) → IsSmall g → ((t : MergeTree) → IsGridTree g t → tile ≡ tile_at t (i % g.columns) (i / g.columns)) → tile ≡ tile_in g i
unfolding tile_in
tile-read g i tile small h = h (grid_tree g) (grid_tree-is g small.columns small.rows)

-- a place of a grid has a row and a column
pub column-below : (g : Grid) (i : ℕ) → IsSmall g → i % g.columns < g.columns
column-below g i small = mod_below i g.columns (let h = small.columns in omega arith)

pub row-below : (g : Grid) (i : ℕ) → IsSmall g → i < tiles_in g → i / g.columns < g.rows
row-below g i small h = div_below i g.columns g.rows (let c = small.columns in omega arith) (omega arith)

-- a number below another is in a block that there is
pub block-below : (a w s : ℕ) → 1 ≤ s → a < w → a / s < div_ceil w s
block-below a w s hs h = div_below a s (div_ceil w s) (omega arith) (let e = (div_ceil_times w s (omega arith)).0 in omega (arith, e))

pub vertex-column : (f : Frame) (v : ℕ) → IsFrame f → v % f.width / f.side < (grid_in f).columns
vertex-column f v h = block-below (v % f.width) f.width f.side h.side (mod_below v f.width (let w = h.width in omega arith))

pub vertex-row : (f : Frame) (v : ℕ) → IsFrame f → v < vertices_in f → v / f.width / f.side < (grid_in f).rows
vertex-row f v h l = block-below (v / f.width) f.height f.side h.side (div_below v f.width f.height (let w = h.width in omega arith) (omega arith))

-- a vertex's tile has a place in the grid, and stands there
pub vertex-place : (f : Frame) (v : ℕ) → IsFrame f → v < vertices_in f → v / f.width / f.side * (grid_in f).columns + v % f.width / f.side < tiles_in (grid_in f)
vertex-place f v h l = mul-add-lt (v / f.width / f.side) (grid_in f).columns (v % f.width / f.side) (grid_in f).rows (vertex-row f v h l) (vertex-column f v h)

pub vertex-tile : (f : Frame) (v : ℕ) → IsFrame f → tile_in (grid_in f) (v / f.width / f.side * (grid_in f).columns + v % f.width / f.side) ≡ home_in f v
unfolding tile_in home_in
vertex-tile f v h =
    let column = vertex-column f v h in
    rw (mod-mul-add (v / f.width / f.side) (grid_in f).columns (v % f.width / f.side) column, div-mul-add (v / f.width / f.side) (grid_in f).columns (v % f.width / f.side) column) refl

-- a grid of a frame has columns and rows, and not more tiles than vertices
block-some : (w s : ℕ) → 1 ≤ w → 1 ≤ s → 1 ≤ div_ceil w s
block-some w s hw hs = let b = block-below 0 w s hs (omega arith) in omega (arith, b)

pub block-few : (w s : ℕ) → 1 ≤ s → div_ceil w s ≤ w
block-few w s hs =
    elim (cases_lt w (div_ceil w s)) [
      | inl more ↦ absurd (let times = (div_ceil_times w s (omega arith)).1 in
          let big = mul-le (w + 1) s (div_ceil w s) s (omega arith) (omega arith) in
          let self = mul-le w 1 w s (omega arith) hs in
          omega (arith, times, big, self))
      | inr few ↦ few
    ]

pub grid-columns : (f : Frame) → IsFrame f → 1 ≤ (grid_in f).columns
grid-columns f h = block-some f.width f.side h.width h.side

pub grid-rows : (f : Frame) → IsFrame f → 1 ≤ (grid_in f).rows
grid-rows f h = block-some f.height f.side h.height h.side

pub grid-few : (f : Frame) → IsFrame f → tiles_in (grid_in f) ≤ 1048576
grid-few f h =
    let m = mul-le (grid_in f).columns (grid_in f).rows f.width f.height (block-few f.width f.side h.side) (block-few f.height f.side h.side) in
    omega (arith, m, h.vertices)

-- the lot that a descent finds
pub lot-read : (g : Grid) (n a b lot : ℕ) (s : Site) → IsSmall g → n ≡ tiles_in g → s ≡ root_of n → ((t : MergeTree) → IsGridTree g t → lot ≡ lot_number n t s a b) → lot ≡ lot_in g a b
unfolding lot_in
lot-read g n a b lot s small en es h = h (grid_tree g) (grid_tree-is g small.columns small.rows) ∙ rw (es, en) refl
