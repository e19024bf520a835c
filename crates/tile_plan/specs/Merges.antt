-- The tree of merges: how a grid of tiles is cut into halves until each rectangle is one tile.
use Rattle.std.specs.Prelude.{◌≡◌, ℕ, zero, suc, ◌+◌, ◌-◌, ◌*◌, ◌<◌, ◌≤◌, ◌==◌, Bool, true, false, nat_lt, nat_le, if◌then◌else◌}
use Rattle.std.specs.Int.{div_ceil}

-- a tile; or a merge: whether its halves lie side by side, how many columns or rows the first has, and the halves
pub data MergeTree : Type 0 where
  Tile : MergeTree
  Merge : Bool → ℕ → MergeTree → MergeTree → MergeTree

-- the greater half of k
abbrev pub half : ℕ → ℕ
half k = div_ceil k 2

-- the tree of a rectangle, where fuel is at least the number of cuts one above the other
abbrev pub cut : ℕ → ℕ → ℕ → MergeTree
cut zero c r = Tile
cut (suc fuel) c r =
    if c * r == 1 then Tile else
    (if nat_le r c then Merge true (half c) (cut fuel (half c) r) (cut fuel (c - half c) r)
    else Merge false (half r) (cut fuel c (half r)) (cut fuel c (r - half r)))

-- the tree of a rectangle of c columns and r rows: one with at least as many columns as rows is cut by columns, and
-- another by rows
unfoldable pub merge_tree : ℕ → ℕ → MergeTree
merge_tree c r = cut (c + r) c r

-- the tree is that of a rectangle of c columns and r rows
abbrev pub IsCut : ℕ → ℕ → MergeTree → Type 0
IsCut c r Tile = (c ≡ 1) × (r ≡ 1)
IsCut c r (Merge true k x y) = ((2 ≤ c) × ((1 ≤ r) × ((r ≤ c) × (k ≡ half c)))) × (IsCut (half c) r x × IsCut (c - half c) r y)
IsCut c r (Merge false k x y) = ((1 ≤ c) × ((c < r) × (k ≡ half r))) × (IsCut c (half r) x × IsCut c (r - half r) y)

-- how many tiles there are
abbrev pub tiles : MergeTree → ℕ
tiles Tile = 1
tiles (Merge by k x y) = tiles x + tiles y

-- how many merges there are
abbrev pub merges : MergeTree → ℕ
merges Tile = 0
merges (Merge by k x y) = merges x + merges y + 1

-- the number of the tile at column c and row r: tiles are numbered left before right
abbrev pub tile_at : MergeTree → ℕ → ℕ → ℕ
tile_at Tile c r = 0
tile_at (Merge true k x y) c r = if nat_lt c k then tile_at x c r else tiles x + tile_at y (c - k) r
tile_at (Merge false k x y) c r = if nat_lt r k then tile_at x c r else tiles x + tile_at y c (r - k)
