-- What the fields of a cut stand for.
use Rattle.energy_cut.specs.Regions.{RegionCut}
use Rattle.energy_cut.specs.declared.cuts.EnergyCut.TheInside.{Inside}

abbrev pub cut_of_fields : Inside → RegionCut
cut_of_fields c = record { nodes = c.nodes.items; labels = c.labels; sum = c.sum }
