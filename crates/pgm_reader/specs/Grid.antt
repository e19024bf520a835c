-- The graph of a picture: its pixels in raster order are the vertices, and neighbours are joined.
use Rattle.std.specs.Prelude.{ℕ, ◌+◌, ◌*◌, ◌/◌, ◌%◌, nat_lt, if◌then◌else◌, List, [], ◌∷◌, ◌++◌, map, slice_get, unwrap_or}
use Rattle.std.specs.Int.{abs_diff}
use Rattle.std.specs.List.{flat_map, range_with_len}
use Rattle.hg_base.specs.Graph.{WeightedGraph, with_unit_areas}
use Rattle.hg_base.specs.declared.graph.Edge.{Edge}
use Rattle.pgm_reader.specs.Raster.{Raster}

-- two pixels
abbrev pub Link : Type 0
Link = ℕ × ℕ

-- pixel i and its neighbour to the right, if there is one
abbrev pub right_of : ℕ → ℕ → List Link
right_of w i = if nat_lt (i % w + 1) w then (i, i + 1) ∷ [] else []

-- pixel i and its neighbour below, if there is one
abbrev pub below_of : ℕ → ℕ → ℕ → List Link
below_of w h i = if nat_lt (i / w + 1) h then (i, i + w) ∷ [] else []

-- the pairs of neighbours: for each pixel in raster order the one to the right, then the one below
abbrev pub links : ℕ → ℕ → List Link
links w h = flat_map (λ i. right_of w i ++ below_of w h i) (range_with_len 0 (w * h))

-- the grey of a pixel, or 0 where there is none
abbrev pub grey : List ℕ → ℕ → ℕ
grey samples i = unwrap_or (slice_get samples i) 0

-- an edge between two pixels, which weighs the absolute difference of their greys
abbrev pub edge_between : List ℕ → Link → Edge
edge_between samples link = record { u = link.0; v = link.1; w = abs_diff (grey samples link.0) (grey samples link.1) }

-- the two pixels of an edge
abbrev pub link_of : Edge → Link
link_of e = (e.u, e.v)

-- the graph of a picture, in which each pixel is joined to those beside it
abbrev pub graph_of : Raster → WeightedGraph
graph_of r = with_unit_areas (r.width * r.height) (map (edge_between r.samples) (links r.width r.height))
