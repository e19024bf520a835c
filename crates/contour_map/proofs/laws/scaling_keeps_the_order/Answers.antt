use Rattle.contour_map.proofs.Scales.{scaled-order, scaled-zero, scaled-most, scaled-same, scaled-highest}
use Rattle.contour_map.proofs.laws.scaling_keeps_the_order.Goals as goal

pub returns-clause-order : goal.returns-clause-order
returns-clause-order c = scaled-order

pub returns-clause-zero : goal.returns-clause-zero
returns-clause-zero c = scaled-zero

pub returns-clause-most : goal.returns-clause-most
returns-clause-most c = scaled-most

pub returns-clause-same : goal.returns-clause-same
returns-clause-same c = scaled-same

pub returns-clause-highest : goal.returns-clause-highest
returns-clause-highest c = scaled-highest
