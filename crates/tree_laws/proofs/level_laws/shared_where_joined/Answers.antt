use Rattle.tree_laws.proofs.ZoneLevels.{shares-joined_test}
use Rattle.tree_laws.proofs.level_laws.shared_where_joined.Goals as goal

pub returns : goal.returns
returns c = λ t s level x y climbs few levels hx hy. shares-joined_test t s climbs few levels level x y hx hy
