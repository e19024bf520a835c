-- The bytes of a contour map as a picture in the binary form P5 of the PGM format.
use Rattle.std.specs.Prelude.{ℕ, List, ◌++◌, map}
use Rattle.std.specs.List.{flat_map}
use Rattle.hg_base.specs.Samples.{sample_bytes}
use Rattle.label_writer.specs.Report.{header}
use Rattle.contour_map.specs.Contours.{PointGrid}
use Rattle.contour_map.specs.Scaling.{highest, scaled, greatest_sample}

-- the bytes of the samples of points, among which this is the highest value
abbrev pub samples_of : ℕ → List ℕ → List ℕ
samples_of high points = flat_map (sample_bytes (greatest_sample high)) (map (scaled high) points)

-- the picture whose pixels are the points of the map
abbrev pub contours_picture : PointGrid → List ℕ
contours_picture m =
    header m.columns m.rows (greatest_sample (highest m.points))
    ++ flat_map (sample_bytes (greatest_sample (highest m.points))) (map (scaled (highest m.points)) m.points)
