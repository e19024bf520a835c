use Rattle.tree_laws.proofs.Tops.{is_above-from, is_above-to, shares-from, shares-to}
use Rattle.tree_laws.proofs.level_laws.shared_by_nodes.Goals as goal

pub returns-clause-above : goal.returns-clause-above
returns-clause-above c = λ t i x climbs h. (is_above-to t i x, is_above-from t climbs i x h)

pub returns-clause-shared : goal.returns-clause-shared
returns-clause-shared c = λ t level x y climbs hx hy. (shares-to t level x y, shares-from t climbs level x y hx hy)
