use Rattle.std.proofs.Common.{◌≡◌, ◌+◌, sym, ◌∙◌, ap, subst, arith, length}
use Rattle.extinction.specs.NodeSurvivors.{AreLowest}
use Rattle.extinction.proofs.OwnLemmas.{AreLowestTo, by-minima, lowest-same, lowest-more, lowest-all}
use Rattle.extinction.proofs.lowest.lowest_nodes.Goals as goal
use Rattle.extinction.proofs.lowest.lowest_nodes.Goals.{then-label-ne0, else-label-ne0}

pub loop-i-preserved : goal.loop-i-preserved
loop-i-preserved c =
    let t = c.args.tree.now in
    let m = c.args.minima.now in
    elim c.if-label-ne0.branch [
      | then-label-ne0 w ↦ lowest-more t m c.loop-i.i c.node_label-label.result c.loop-i.lowest.items c.if-label-ne0.lowest.items c.node_label-label.ensures.label w.if-label-ne0.true c.node_label-label.ensures.few c.loop-i.invariant (ap (λ v. v.items) w.lowest-is)
      | else-label-ne0 w ↦ subst (AreLowestTo t m (c.loop-i.i + 1)) (sym (ap (λ v. v.items) w.lowest-is)) (lowest-same t m c.loop-i.i c.loop-i.lowest.items (sym c.node_label-label.ensures.label ∙ w.if-label-ne0.false) c.loop-i.invariant)
    ]

pub returns : goal.returns
returns c =
    by-minima (λ t m. length t.parents ≡ c.loop-i.i → AreLowestTo t m c.loop-i.i c.loop-i.lowest.items → AreLowest t m c.loop-i.lowest.items) c.args.tree.now c.args.minima.now c.requires
    (λ end a. lowest-all c.requires.0 c.requires.1.0 c.loop-i.i c.loop-i.lowest.items (sym end) a) (omega arith) c.loop-i.invariant
