use Rattle.extinction.proofs.HoldLemmas.{holds-from, holds-to}
use Rattle.extinction.proofs.laws.holding_by_paths.Goals as goal

pub returns : goal.returns
returns c t m i climbs few hi = (holds-to t m i, λ h. holds-from t m climbs few i h.0 h.1)
