use Rattle.contour_map.proofs.EdgeNumbers.{right-before_last, right-in_last}
use Rattle.contour_map.proofs.places.EdgeValues.right_number.Goals as goal

pub returns-then-y-self-clause-within : goal.returns-then-y-self-clause-within
returns-then-y-self-clause-within c =
    right-before_last c.args.self.now.width c.args.self.now.height c.args.x c.args.y c.first_number-first.result c.args.self.now.values.now c.requires.values c.requires.column c.if-y-self.true c.first_number-first.ensures.number

pub returns-else-y-self-clause-within : goal.returns-else-y-self-clause-within
returns-else-y-self-clause-within c =
    right-in_last c.args.self.now.width c.args.self.now.height c.args.x c.args.y c.first_number-first.result c.args.self.now.values.now c.requires.values c.requires.column c.requires.row c.if-y-self.false c.first_number-first.ensures.number
