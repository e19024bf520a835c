-- What an input is: an edge list or a picture, by its first bytes.
use Rattle.std.specs.Prelude.{ℕ, Bool, true, false, List, length, Option, Some, None, Result, Ok, Err, nat_lt, if◌then◌else◌}
use Rattle.hg_base.specs.Graph.{WeightedGraph}
use Rattle.hg_base.specs.declared.fault.InputFault.{InputFault}
use Rattle.hg_base.specs.declared.fault.FaultKind.TheVariants.{TooLong}
use Rattle.graph_reader.specs.EdgeList.{edge_list}
use Rattle.pgm_reader.specs.Raster.{Raster}
use Rattle.pgm_reader.specs.Pgm.{is_picture, picture}
use Rattle.pgm_reader.specs.Grid as grid
use Rattle.pgm_reader.specs.Generator.{made}
use Rattle.higra_words.specs.declared.request.Made.{Made}
use Rattle.higra_input.specs.declared.input.Input.{Input}
use Rattle.higra_input.specs.declared.input.Input.TheVariants.{Edges, Picture}

-- the graph of an input: its edge list's, or its picture's
abbrev pub input_graph : Input → WeightedGraph
input_graph (Edges graph) = graph
input_graph (Picture raster) = grid.graph_of raster

-- what was read as an edge list, as an input
abbrev pub edges_as_input : Result WeightedGraph InputFault → Result Input InputFault
edges_as_input (Ok graph) = Ok (Edges graph)
edges_as_input (Err fault) = Err fault

-- what was read as a picture, as an input
abbrev pub picture_as_input : Result Raster InputFault → Result Input InputFault
picture_as_input (Ok raster) = Ok (Picture raster)
picture_as_input (Err fault) = Err fault

-- the input that bytes give, read as a picture or as an edge list, or its first fault
unfoldable pub read_as : Bool → List ℕ → Result Input InputFault
read_as true bytes = picture_as_input (picture bytes)
read_as false bytes = edges_as_input (edge_list bytes)

-- the input that bytes give, or its first fault: a picture where they begin as one, and else an edge list
abbrev pub input_of : List ℕ → Result Input InputFault
input_of bytes = read_as (is_picture bytes) bytes

-- the fault of an input of more than 134,217,728 bytes
abbrev pub too_long : InputFault
too_long = record { kind = TooLong; at = 134217728; value = 134217729 }

-- the input that a source of these bytes gives, or its fault
unfoldable pub read_of : List ℕ → Result Input InputFault
read_of bytes = if nat_lt 134217728 (length bytes) then Err too_long else input_of bytes

-- the input of a request: the picture that it has made, or else what its source gives
abbrev pub input_for : Option Made → List ℕ → Result Input InputFault
input_for (Some m) bytes = Ok (Picture (made m.side m.seed))
input_for None bytes = read_of bytes
