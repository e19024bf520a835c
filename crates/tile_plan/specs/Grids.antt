-- Grids of tiles, as the code cuts them, beside their trees of merges.
use Rattle.std.specs.Prelude.{◌≡◌, ℕ, ◌+◌, ◌*◌, ◌≤◌, ◌-◌, ◌/◌, ◌%◌, ◌&&◌, List, map, nat_lt, nat_le, if◌then◌else◌}
use Rattle.std.specs.List.{range_with_len}
use Rattle.tile_plan.specs.Merges.{MergeTree, Tile, Merge, half, merge_tree, IsCut, tiles, merges, tile_at}
use Rattle.tile_plan.specs.Sites.{SitedPart, find, left_site, right_site, left_number, right_number}
use Rattle.tile_plan.specs.declared.site.Grid.{Grid}
use Rattle.tile_plan.specs.declared.site.Site.{Site}
use Rattle.tile_plan.specs.declared.site.Side.TheVariants as sides
use Rattle.tile_plan.specs.declared.site.Row.{Row}

-- how many tiles a grid has
abbrev pub tiles_in : Grid → ℕ
tiles_in g = g.columns * g.rows

-- there are from 1 to 65,536 tiles
pub record IsSmall (g : Grid) : Type 0 where
  pub columns : 1 ≤ g.columns
  pub rows : 1 ≤ g.rows
  pub few : tiles_in g ≤ 65536

-- the tree is that of the grid
abbrev pub IsGridTree : Grid → MergeTree → Type 0
IsGridTree g t = IsCut g.columns g.rows t

-- the halves of the tree are those of two grids
abbrev pub AreHalves : MergeTree → Grid → Grid → Type 0
AreHalves Tile a b = ⊥
AreHalves (Merge by k x y) a b = IsGridTree a x × IsGridTree b y

-- the halves of a grid side by side
pub record AreSideBySide (g a b : Grid) : Type 0 where
  pub first : a.columns ≡ half g.columns
  pub second : a.columns + b.columns ≡ g.columns
  pub first_rows : a.rows ≡ g.rows
  pub second_rows : b.rows ≡ g.rows

-- the halves of a grid one above the other
pub record AreStacked (g a b : Grid) : Type 0 where
  pub first : a.rows ≡ half g.rows
  pub second : a.rows + b.rows ≡ g.rows
  pub first_columns : a.columns ≡ g.columns
  pub second_columns : b.columns ≡ g.columns

-- the tiles from the site's first on, and the merges before it, are those of a plan of n tiles
pub record IsSited (n : ℕ) (g : Grid) (s : Site) : Type 0 where
  pub plan : n ≤ 65536
  pub tiles : s.first_tile + tiles_in g ≤ n
  pub merges : s.first_merge ≤ s.first_tile

-- what the table of parts keeps of one
abbrev pub row_of_part : ℕ → SitedPart → Row
row_of_part n p = record {
  site = p.site;
  tiles = tiles p.tree;
  left = left_number n p.tree p.site;
  right = right_number n p.tree p.site;
}

-- the part whose lot an edge between tiles a and b is in, by descent: the half in which both are, the tile at last,
-- or the merge whose halves part them
abbrev pub lot_number : ℕ → MergeTree → Site → ℕ → ℕ → ℕ
lot_number n Tile s a b = s.first_tile
lot_number n (Merge by k x y) s a b =
    if nat_lt a (s.first_tile + tiles x) && nat_lt b (s.first_tile + tiles x) then lot_number n x (left_site n x y s) a b else
    (if nat_le (s.first_tile + tiles x) a && nat_le (s.first_tile + tiles x) b then lot_number n y (right_site n x y s) a b
    else n + s.first_merge + merges x + merges y)

-- where the root of a plan of n tiles stands; its parent is a part of its own, beyond the last
abbrev pub root_of : ℕ → Site
root_of n = record { first_tile = 0; first_merge = 0; parent = 2 * n - 1; side = sides.Left; room = n }

-- the tree of merges of a grid
abbrev pub grid_tree : Grid → MergeTree
grid_tree g = merge_tree g.columns g.rows

-- the part of number i
unfoldable pub part_in : Grid → ℕ → SitedPart
part_in g i = find (tiles_in g) (grid_tree g) (root_of (tiles_in g)) i

-- the table of all parts
unfoldable pub rows_of : Grid → List Row
rows_of g = map (λ i. row_of_part (tiles_in g) (part_in g i)) (range_with_len 0 (2 * tiles_in g - 1))

-- the number of the tile at a place of the grid, row after row
unfoldable pub tile_in : Grid → ℕ → ℕ
tile_in g i = tile_at (grid_tree g) (i % g.columns) (i / g.columns)

-- the part whose lot an edge between tiles a and b is in
unfoldable pub lot_in : Grid → ℕ → ℕ → ℕ
lot_in g a b = lot_number (tiles_in g) (grid_tree g) (root_of (tiles_in g)) a b
