-- The bytes of the report of saliencies.
use Rattle.std.specs.Prelude.{ℕ, List, [], ◌∷◌, ◌++◌, codes, length}
use Rattle.std.specs.List.{range_with_len, flat_map}
use Rattle.hg_base.specs.Text.{headed_line}
use Rattle.report_lines.specs.Lines.{value_line}

-- the line of the report, and then one for each edge
abbrev pub saliency_report : List ℕ → List ℕ
saliency_report values = headed_line (codes "saliency") (length values ∷ []) ++ flat_map (value_line values) (range_with_len 0 (length values))
