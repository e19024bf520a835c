-- The bytes of the reports of minima and of a watershed cut.
use Rattle.std.specs.Prelude.{ℕ, List, [], ◌∷◌, ◌++◌, codes, length}
use Rattle.std.specs.List.{range_with_len, flat_map}
use Rattle.hg_base.specs.Text.{headed_line}
use Rattle.report_lines.specs.Lines.{headed_value_line}
use Rattle.watershed_cut.specs.MinimumLabels.{LabelledMinima}
use Rattle.watershed_cut.specs.Watershed.{WatershedCut}

-- a line for each label
abbrev pub label_lines : List ℕ → List ℕ → List ℕ
label_lines word labels = flat_map (headed_value_line word labels) (range_with_len 0 (length labels))

-- a line for each number
abbrev pub number_lines : List ℕ → List ℕ → List ℕ
number_lines word numbers = flat_map (λ e. headed_line word (e ∷ [])) numbers

-- the line of the report, one for each vertex, and one for each edge
abbrev pub minima_report : LabelledMinima → List ℕ
minima_report m =
    headed_line (codes "minima") (m.count ∷ length m.vertices ∷ length m.edges ∷ [])
    ++ label_lines (codes "v") m.vertices
    ++ label_lines (codes "e") m.edges

-- the line of the report, one for each vertex, for each cut edge and for each forest edge
abbrev pub watershed_report : WatershedCut → ℕ → ℕ → List ℕ
watershed_report w count weight =
    headed_line (codes "watershed") (length w.labels.labels ∷ count ∷ length w.cut ∷ length w.forest ∷ weight ∷ [])
    ++ label_lines (codes "v") w.labels.labels
    ++ number_lines (codes "cut") w.cut
    ++ number_lines (codes "forest") w.forest
