-- The bytes of labels: as a text, and as a picture in the binary form P5 of the PGM format.
use Rattle.std.specs.Prelude.{ℕ, List, [], ◌∷◌, ◌++◌, codes, length}
use Rattle.std.specs.List.{range_with_len, flat_map}
use Rattle.hg_base.specs.Samples.{sample_bytes}
use Rattle.hg_base.specs.Text.{line, headed_line}
use Rattle.hg_base.specs.Labels.{Labelling}
use Rattle.report_lines.specs.Lines.{value_line}

-- the line of the report, and then one for each vertex
abbrev pub labels_report : Labelling → List ℕ
labels_report l = headed_line (codes "labels") (length l.labels ∷ l.count ∷ []) ++ flat_map (value_line l.labels) (range_with_len 0 (length l.labels))

-- the header of a picture of this width, height and greatest value: a line each for the form, the sizes and that value
abbrev pub header : ℕ → ℕ → ℕ → List ℕ
header width height greatest = codes "P5" ++ (10 ∷ line (width ∷ height ∷ []) ++ line (greatest ∷ []))

-- the picture whose pixels have the labels as samples, and the count of labels as greatest value
abbrev pub labels_picture : Labelling → ℕ → ℕ → List ℕ
labels_picture l width height = header width height l.count ++ flat_map (sample_bytes l.count) l.labels
