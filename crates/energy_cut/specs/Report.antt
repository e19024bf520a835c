-- The bytes of the report of a cut.
use Rattle.std.specs.Prelude.{ℕ, List, [], ◌∷◌, ◌++◌, codes, length, slice_index}
use Rattle.std.specs.List.{range_with_len, flat_map}
use Rattle.hg_base.specs.Text.{headed_line}
use Rattle.report_lines.specs.Lines.{headed_value_line}
use Rattle.energy_cut.specs.Regions.{RegionCut}

-- a node's line: its number and its energy
abbrev pub energy_line : List ℕ → ℕ → List ℕ
energy_line energies i = headed_line (codes "node") (i ∷ slice_index energies i ∷ [])

-- the line of the report, then one for each node of the cut, and one for each vertex
abbrev pub energy_report : RegionCut → List ℕ → List ℕ
energy_report c energies =
    headed_line (codes "energy") (length c.labels.labels ∷ c.labels.count ∷ c.sum ∷ [])
    ++ flat_map (energy_line energies) c.nodes
    ++ flat_map (headed_value_line (codes "v") c.labels.labels) (range_with_len 0 (length c.labels.labels))
