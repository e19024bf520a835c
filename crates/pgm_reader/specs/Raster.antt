-- Pictures as contracts see them.
use Rattle.std.specs.Prelude.{◌≡◌, ℕ, ◌*◌, ◌≤◌, List, length, All}

-- a grey picture: its samples are its pixels' greys, rows from the top, pixels from the left
pub record Raster : Type 0 where
  pub width : ℕ
  pub height : ℕ
  pub max : ℕ
  pub samples : List ℕ

-- what every picture keeps to
pub record IsRaster (r : Raster) : Type 0 where
  pub some_width : 1 ≤ r.width
  pub some_height : 1 ≤ r.height
  pub pixels : r.width * r.height ≤ 1048576
  pub one_sample_each : length r.samples ≡ r.width * r.height
  pub some_max : 1 ≤ r.max
  pub up_to_max : All (λ s. s ≤ r.max) r.samples
