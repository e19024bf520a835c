use Rattle.contour_map.proofs.EdgeNumbers.{below-before_last, below-in_last}
use Rattle.contour_map.proofs.places.EdgeValues.below_number.Goals as goal

pub returns-then-x-self-clause-within : goal.returns-then-x-self-clause-within
returns-then-x-self-clause-within c =
    below-before_last c.args.self.now.width c.args.self.now.height c.args.x c.args.y c.first_number-first.result c.args.self.now.values.now c.requires.values c.if-x-self.true c.requires.row c.first_number-first.ensures.number

pub returns-else-x-self-clause-within : goal.returns-else-x-self-clause-within
returns-else-x-self-clause-within c =
    below-in_last c.args.self.now.width c.args.self.now.height c.args.x c.args.y c.first_number-first.result c.args.self.now.values.now c.requires.values c.requires.column c.if-x-self.false c.requires.row c.first_number-first.ensures.number
