-- What the fields of labels stand for.
use Rattle.hg_base.specs.Labels.{Labelling}
pub use Rattle.hg_base.specs.Labels.{IsLabelling}
use Rattle.hg_base.specs.declared.labels.Labels.TheInside.{Inside}

abbrev pub labelling_of : Inside → Labelling
labelling_of l = record { labels = l.labels.items; count = l.count }
