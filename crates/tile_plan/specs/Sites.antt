-- Where the parts of a plan stand in its tree of merges. The plan has `n` tiles.
use Rattle.std.specs.Prelude.{ℕ, ◌+◌, ◌==◌, Bool, ◌&&◌, ◌||◌, List, [], ◌∷◌, ◌++◌, nat_lt, nat_le, if◌then◌else◌}
use Rattle.tile_plan.specs.Merges.{MergeTree, Tile, Merge, tiles, merges}
use Rattle.tile_plan.specs.declared.site.Site.{Site}
use Rattle.tile_plan.specs.declared.site.Side.{Side}
use Rattle.tile_plan.specs.declared.site.Side.TheVariants as sides

-- a part: the tree at and below it, and where it stands
pub record SitedPart : Type 0 where
  pub tree : MergeTree
  pub site : Site

-- the side of the other half
abbrev pub other_side : Side → Side
other_side sides.Left = sides.Right
other_side sides.Right = sides.Left

-- the number of the part: tiles are numbered from 0 and merges from n, in post-order
abbrev pub part_number : ℕ → MergeTree → Site → ℕ
part_number n Tile s = s.first_tile
part_number n (Merge by k x y) s = n + s.first_merge + merges x + merges y

-- the site of the left half x of a merge at s
abbrev pub left_site : ℕ → MergeTree → MergeTree → Site → Site
left_site n x y s = record {
  first_tile = s.first_tile;
  first_merge = s.first_merge;
  parent = n + s.first_merge + merges x + merges y;
  side = sides.Left;
  room = s.room;
}

-- the site of the right half y
abbrev pub right_site : ℕ → MergeTree → MergeTree → Site → Site
right_site n x y s = record {
  first_tile = s.first_tile + tiles x;
  first_merge = s.first_merge + merges x;
  parent = n + s.first_merge + merges x + merges y;
  side = sides.Right;
  room = tiles y;
}

-- the part comes before the right half: it is a tile or a merge of the left one
abbrev pub is_left : ℕ → MergeTree → Site → ℕ → Bool
is_left n x s p = if nat_lt p n then nat_lt p (s.first_tile + tiles x) else nat_lt p (n + s.first_merge + merges x)

-- the part of number p at or below one
abbrev pub find : ℕ → MergeTree → Site → ℕ → SitedPart
find n Tile s p = record { tree = Tile; site = s }
find n (Merge by k x y) s p =
    if p == n + s.first_merge + merges x + merges y then record { tree = Merge by k x y; site = s } else
    (if is_left n x s p then find n x (left_site n x y s) p else find n y (right_site n x y s) p)

-- the post-order of the parts at and below one
abbrev pub post_order : ℕ → MergeTree → Site → List ℕ
post_order n Tile s = s.first_tile ∷ []
post_order n (Merge by k x y) s =
    (post_order n x (left_site n x y s) ++ post_order n y (right_site n x y s)) ++ (n + s.first_merge + merges x + merges y) ∷ []

-- t is one of `count` tiles from `first` on
abbrev pub is_among : ℕ → ℕ → ℕ → Bool
is_among first count t = nat_le first t && nat_lt t (first + count)

-- an edge between tiles a and b is in the lot of this part: in a tile's where both are it, in a merge's where one is
-- in each half
abbrev pub is_lot_of : MergeTree → Site → ℕ → ℕ → Bool
is_lot_of Tile s a b = (a == s.first_tile) && (b == s.first_tile)
is_lot_of (Merge by k x y) s a b =
    (is_among s.first_tile (tiles x) a && is_among (s.first_tile + tiles x) (tiles y) b)
    || (is_among s.first_tile (tiles x) b && is_among (s.first_tile + tiles x) (tiles y) a)

-- the number of the left half of a part, 0 for a tile
abbrev pub left_number : ℕ → MergeTree → Site → ℕ
left_number n Tile s = 0
left_number n (Merge by k x y) s = part_number n x (left_site n x y s)

-- the number of the right half
abbrev pub right_number : ℕ → MergeTree → Site → ℕ
right_number n Tile s = 0
right_number n (Merge by k x y) s = part_number n y (right_site n x y s)
