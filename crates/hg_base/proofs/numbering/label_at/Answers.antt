use Rattle.std.proofs.Common.{sym, arith}
use Rattle.hg_base.specs.Numbering.{is_class_head}
use Rattle.hg_base.proofs.Passing.{count_below-most}
use Rattle.hg_base.proofs.KeyLabels.{numbers-old, numbers-new, key-below}
use Rattle.hg_base.proofs.numbering.label_at.Goals as goal

pub returns-then-number-ne0-clause-label : goal.returns-then-number-ne0-clause-label
returns-then-number-ne0-clause-label c =
    sym (numbers-old c.args.keys.now c.args.x c.args.numbers.now c.args.count.now c.in-Some.key c.requires.numbers c.in-Some.is
    (key-below c.args.keys.now c.args.x c.in-Some.key _ c.requires.within c.requires.below c.in-Some.is) c.if-number-ne0.true).0

pub returns-then-number-ne0-clause-numbers : goal.returns-then-number-ne0-clause-numbers
returns-then-number-ne0-clause-numbers c =
    (numbers-old c.args.keys.now c.args.x c.args.numbers.now c.args.count.now c.in-Some.key c.requires.numbers c.in-Some.is
    (key-below c.args.keys.now c.args.x c.in-Some.key _ c.requires.within c.requires.below c.in-Some.is) c.if-number-ne0.true).1

pub overflow_add-count : goal.overflow_add-count
overflow_add-count c = omega (arith, c.requires.numbers.counted, c.requires.within, c.requires.few, count_below-most (is_class_head c.args.keys.now) c.args.x)

pub returns-clause-label : goal.returns-clause-label
returns-clause-label c =
    sym (numbers-new c.args.keys.now c.args.x c.args.numbers.now c.args.count.now c.in-Some.key c.requires.numbers c.in-Some.is
    (key-below c.args.keys.now c.args.x c.in-Some.key _ c.requires.within c.requires.below c.in-Some.is) c.if-number-ne0.false).0

pub returns-clause-numbers : goal.returns-clause-numbers
returns-clause-numbers c =
    (numbers-new c.args.keys.now c.args.x c.args.numbers.now c.args.count.now c.in-Some.key c.requires.numbers c.in-Some.is
    (key-below c.args.keys.now c.args.x c.in-Some.key _ c.requires.within c.requires.below c.in-Some.is) c.if-number-ne0.false).1
