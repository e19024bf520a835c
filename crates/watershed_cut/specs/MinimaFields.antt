-- What the fields of minima stand for.
use Rattle.watershed_cut.specs.MinimumLabels.{LabelledMinima}
use Rattle.watershed_cut.specs.declared.minima.Minima.TheInside.{Inside}

abbrev pub minima_in : Inside → LabelledMinima
minima_in m = record { count = m.count; vertices = m.vertices.items; edges = m.edges.items }
