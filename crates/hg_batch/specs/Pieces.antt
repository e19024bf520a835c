-- The pieces of an input: it is cut at each form feed, the byte 12.
use Rattle.std.specs.Prelude.{◌==◌, ℕ, ◌+◌, List, [], ◌∷◌, if◌then◌else◌, map, Result, Ok, Err}
use Rattle.hg_base.specs.declared.fault.InputFault.{InputFault}
use Rattle.graph_reader.specs.EdgeList.{edge_list}
use Rattle.higra_input.specs.Inputs.{edges_as_input}
use Rattle.higra_input.specs.declared.input.Input.{Input}
use Rattle.higra_input.specs.declared.input.Input.TheVariants.{Edges, Picture}

-- the pieces with one more byte in front of the first
abbrev pub led_by : ℕ → List (List ℕ) → List (List ℕ)
led_by b [] = (b ∷ []) ∷ []
led_by b (p ∷ ps) = (b ∷ p) ∷ ps

-- the pieces between the form feeds, one more than there are of them
abbrev pub pieces : List ℕ → List (List ℕ)
pieces [] = [] ∷ []
pieces (b ∷ bs) = if b == 12 then [] ∷ pieces bs else led_by b (pieces bs)

-- what each piece gives, read as an edge list alone: a graph, or its first fault
abbrev pub piece_reading : List ℕ → Result Input InputFault
piece_reading piece = edges_as_input (edge_list piece)

abbrev pub readings : List ℕ → List (Result Input InputFault)
readings bytes = map piece_reading (pieces bytes)

-- how many vertices a piece has that is an edge list
abbrev pub piece_vertices : Result Input InputFault → ℕ
piece_vertices (Ok (Edges graph)) = graph.n
piece_vertices (Ok (Picture raster)) = 0
piece_vertices (Err fault) = 0

abbrev pub all_vertices : List (Result Input InputFault) → ℕ
all_vertices [] = 0
all_vertices (r ∷ rs) = piece_vertices r + all_vertices rs
