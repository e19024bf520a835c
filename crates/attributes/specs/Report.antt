-- The bytes of the report of attributes.
use Rattle.std.specs.Prelude.{ℕ, List, [], ◌∷◌, ◌++◌, codes, length, get_or}
use Rattle.std.specs.List.{range_with_len, flat_map}
use Rattle.hg_base.specs.Text.{line, headed_line}
use Rattle.attributes.specs.Attributes.{AttributeLists}

-- a node's line: its number, its area, its volume and its dynamics
abbrev pub attributes_line : AttributeLists → ℕ → List ℕ
attributes_line a i = line (i ∷ get_or a.areas i 0 ∷ get_or a.volumes i 0 ∷ get_or a.dynamics i 0 ∷ [])

-- the line of the report, and then one for each node
abbrev pub attributes_report : AttributeLists → List ℕ
attributes_report a = headed_line (codes "attributes") (length a.areas ∷ []) ++ flat_map (attributes_line a) (range_with_len 0 (length a.areas))
