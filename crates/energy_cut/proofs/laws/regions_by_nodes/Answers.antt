use Rattle.energy_cut.proofs.Chosen.{region-from, region-to}
use Rattle.energy_cut.proofs.laws.regions_by_nodes.Goals as goal

pub returns : goal.returns
returns c = λ t d x y f k hx hy. (region-to t d x y, region-from t f d x y hx hy)
