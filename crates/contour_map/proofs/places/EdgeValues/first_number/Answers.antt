use Rattle.std.proofs.Common.{arith}
use Rattle.contour_map.proofs.EdgeNumbers.{first-few, narrow}
use Rattle.contour_map.proofs.places.EdgeValues.first_number.Goals as goal

pub overflow_mul-result-2 : goal.overflow_mul-result-2
overflow_mul-result-2 c = omega (arith, first-few c.args.self.now.width c.args.self.now.height c.args.y c.args.self.now.values.now c.requires.values c.requires.row)

pub returns-clause-few : goal.returns-clause-few
returns-clause-few c = first-few c.args.self.now.width c.args.self.now.height c.args.y c.args.self.now.values.now c.requires.values c.requires.row

pub returns-clause-narrow : goal.returns-clause-narrow
returns-clause-narrow c = narrow c.args.self.now.width c.args.self.now.height c.args.self.now.values.now c.requires.values
