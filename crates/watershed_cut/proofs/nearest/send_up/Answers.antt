use Rattle.std.proofs.Common.{◌+◌, ◌<◌, Bool, List, sym, subst, arith, length}
use Rattle.partition_tree.proofs.WellFormed.{well_formed-climbs, well_formed-leaves}
use Rattle.watershed_cut.proofs.HolderStops.{AreSentUp, sent_up-same, sent_up-more, sent_up-all}
use Rattle.watershed_cut.proofs.nearest.send_up.Goals as goal
use Rattle.watershed_cut.proofs.nearest.send_up.Goals.{then-holds-i, else-holds-i}

pub loop-i-preserved : goal.loop-i-preserved
loop-i-preserved c =
    let t = c.args.tree.now in
    let i = c.loop-i.i in
    let labels = c.args.minima.now.vertices in
    let climbs = well_formed-climbs t c.nodes-i-end.ensures.well_formed in
    let node : i < length t.parents = omega (arith, c.loop-i-test.true, c.nodes-i-end.ensures.value, c.loop-i.auto.i-end) in
    elim c.if-holds-i.branch [
      | then-holds-i w ↦ subst (λ (h : List Bool). AreSentUp t labels (i + 1) h) (sym w.holds-is) (sent_up-more t climbs labels i w.parent.result c.loop-i.holds node w.parent.ensures.value c.loop-i.invariant w.if-holds-i.true)
      | else-holds-i w ↦ subst (λ (h : List Bool). AreSentUp t labels (i + 1) h) (sym w.holds-is) (sent_up-same t labels i c.loop-i.holds c.loop-i.invariant w.if-holds-i.false)
    ]

pub returns : goal.returns
returns c =
    let t = c.args.tree.now in
    let forest = c.nodes-i-end.ensures.well_formed in
    sent_up-all t (well_formed-climbs t forest) (well_formed-leaves t forest) c.args.minima.now.vertices c.loop-i.i c.loop-i.holds (omega (arith, c.loop-i-test.false, c.nodes-i-end.ensures.value, c.loop-i.auto.i-end)) c.loop-i.invariant
