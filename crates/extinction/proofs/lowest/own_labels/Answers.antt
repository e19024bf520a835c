use Rattle.std.proofs.Common.{◌≡◌, arith}
use Rattle.extinction.specs.NodeSurvivors.{AreLowest, AreOwnLabels}
use Rattle.extinction.proofs.OwnLemmas.{AreOwnTo, by-minima, own-all}
use Rattle.extinction.proofs.lowest.own_labels.Goals as goal

pub returns : goal.returns
returns c =
    by-minima (λ t m. AreLowest t m c.in_ok-lowest.lowest.items → c.loop-label.label ≡ m.count → AreOwnTo t c.in_ok-lowest.lowest.items c.loop-label.label c.loop-label.own.items → AreOwnLabels t m c.loop-label.own.items)
    c.args.tree.now c.args.minima.now c.requires
    (λ lows end a. own-all c.requires.0 c.requires.1.0 c.in_ok-lowest.lowest.items lows c.loop-label.label c.loop-label.own.items end a) c.in_ok-lowest.ensures (omega arith) c.loop-label.invariant
