use Rattle.tree_laws.proofs.ZoneLevels.{zones-are}
use Rattle.tree_laws.proofs.level_laws.zones_are_components.Goals as goal

pub returns : goal.returns
returns c = λ t s climbs rise few low levels. zones-are t s (record { climbs = climbs; rise = rise; few_leaves = few; low_leaves = low; levels = levels })
