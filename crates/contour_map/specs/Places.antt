-- Which edge of a picture's graph joins two neighbours. A picture has w columns and h rows.
use Rattle.std.specs.Prelude.{◌≡◌, ℕ, ◌+◌, ◌-◌, ◌*◌, ◌≤◌, nat_lt, if◌then◌else◌, List, length}
use Rattle.pgm_reader.specs.Grid.{links}

-- the pixel in column x and row y
abbrev pub pixel_at : ℕ → ℕ → ℕ → ℕ
pixel_at w x y = y * w + x

-- The edges are listed pixel by pixel in raster order, the one to the right before the one below. So each row but the
-- last has 2 * w - 1 of them.

-- the number of the edge from the pixel in column x and row y to the one to its right
abbrev pub right_edge : ℕ → ℕ → ℕ → ℕ → ℕ
right_edge w h x y = y * (2 * w - 1) + (if nat_lt (y + 1) h then 2 * x else x)

-- the number of the edge from the pixel in column x and row y to the one below
abbrev pub below_edge : ℕ → ℕ → ℕ → ℕ
below_edge w x y = y * (2 * w - 1) + (2 * x + (if nat_lt (x + 1) w then 1 else 0))

-- a value for each edge of a picture's graph
pub record AreEdgeValues (w h : ℕ) (values : List ℕ) : Type 0 where
  pub some_width : 1 ≤ w
  pub some_height : 1 ≤ h
  pub pixels : w * h ≤ 1048576
  pub one_each : length values ≡ length (links w h)
