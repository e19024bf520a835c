-- What the fields of a watershed cut stand for.
use Rattle.watershed_cut.specs.Watershed.{WatershedCut}
use Rattle.watershed_cut.specs.declared.cuts.Watershed.TheInside.{Inside}

abbrev pub watershed_in : Inside → WatershedCut
watershed_in w = record { labels = w.labels; cut = w.cut.items; forest = w.forest.items }
