-- Contour maps on the Khalimsky grid (Najman and Schmitt, 1996). The grid of a picture has
-- points for its pixels, between them places for the pairs of neighbours, and corners where four pixels meet. A point is a
-- pixel where its column and its row are even, a corner where both are odd, and else a place.
use Rattle.std.specs.Prelude.{◌≡◌, ℕ, ◌+◌, ◌-◌, ◌*◌, ◌/◌, ◌%◌, ◌<◌, ◌==◌, if◌then◌else◌, List, length, map, max, get_or, slice_get, Some}
use Rattle.std.specs.List.{range_with_len}
use Rattle.pgm_reader.specs.Grid.{links}
use Rattle.contour_map.specs.Places.{pixel_at, right_edge, below_edge}

-- a value for each point of a grid, rows from the top, points from the left
pub record PointGrid : Type 0 where
  pub columns : ℕ
  pub rows : ℕ
  pub points : List ℕ

-- the value of the point in column x and row y
abbrev pub point_at : PointGrid → ℕ → ℕ → ℕ
point_at m x y = get_or m.points (y * m.columns + x) 0

-- the neighbours p and q are joined by an edge of the graph of w * h pixels, and the point has its value
abbrev pub HasValueOf : ℕ → ℕ → List ℕ → ℕ → ℕ → ℕ → Type 0
HasValueOf w h values p q point = (e : ℕ) × ((slice_get (links w h) e ≡ Some (p, q)) × (point ≡ get_or values e 0))

-- The contour map of w * h pixels by the values of their edges: 0 at each pixel, at each place the value of the edge between
-- its neighbours, and at each corner the greatest of the four places around it.
pub record IsContourMap (w h : ℕ) (values : List ℕ) (m : PointGrid) : Type 0 where
  pub columns : m.columns ≡ 2 * w - 1
  pub rows : m.rows ≡ 2 * h - 1
  pub one_each : length m.points ≡ m.columns * m.rows
  pub pixels : (x y : ℕ) → x < w → y < h → point_at m (2 * x) (2 * y) ≡ 0
  pub right : (x y : ℕ) → x + 1 < w → y < h → HasValueOf w h values (pixel_at w x y) (pixel_at w (x + 1) y) (point_at m (2 * x + 1) (2 * y))
  pub below : (x y : ℕ) → x < w → y + 1 < h → HasValueOf w h values (pixel_at w x y) (pixel_at w x (y + 1)) (point_at m (2 * x) (2 * y + 1))
  pub corners : (x y : ℕ) → x + 1 < w → y + 1 < h →
      point_at m (2 * x + 1) (2 * y + 1)
      ≡ max (max (point_at m (2 * x + 1) (2 * y)) (point_at m (2 * x + 1) (2 * y + 2))) (max (point_at m (2 * x) (2 * y + 1)) (point_at m (2 * x + 2) (2 * y + 1)))

-- the value of the edge to the right of the pixel in column x and row y, and of the one below
abbrev pub right_value : ℕ → ℕ → List ℕ → ℕ → ℕ → ℕ
right_value w h values x y = get_or values (right_edge w h x y) 0

abbrev pub below_value : ℕ → List ℕ → ℕ → ℕ → ℕ
below_value w values x y = get_or values (below_edge w x y) 0

-- the value of the corner to the right of that pixel and below it
abbrev pub corner_value : ℕ → ℕ → List ℕ → ℕ → ℕ → ℕ
corner_value w h values x y =
    max (max (right_value w h values x y) (right_value w h values x (y + 1))) (max (below_value w values x y) (below_value w values (x + 1) y))

-- the value of the point in column x and row y
abbrev pub point_value : ℕ → ℕ → List ℕ → ℕ → ℕ → ℕ
point_value w h values x y =
    if x % 2 == 0
    then (if y % 2 == 0 then 0 else below_value w values (x / 2) (y / 2))
    else (if y % 2 == 0 then right_value w h values (x / 2) (y / 2) else corner_value w h values (x / 2) (y / 2))

-- the contour map, point by point
abbrev pub contour_map : ℕ → ℕ → List ℕ → PointGrid
contour_map w h values = record {
  columns = 2 * w - 1;
  rows = 2 * h - 1;
  points = map (λ i. point_value w h values (i % (2 * w - 1)) (i / (2 * w - 1))) (range_with_len 0 ((2 * w - 1) * (2 * h - 1)));
}
