use Rattle.std.proofs.Common.{◌-◌, ap, get_or, ℕ}
use Rattle.attributes.specs.Attributes.{altitude_over}
use Rattle.partition_tree.proofs.ListsByNumber.{values_more}
use Rattle.attributes.proofs.table.dynamics.Goals as goal

pub loop-i-preserved : goal.loop-i-preserved
loop-i-preserved c =
    let t = c.args.tree.now in
    values_more (λ i. altitude_over t i - get_or c.args.lowest.now i 0) c.loop-i.i _ c.loop-i.dynamics.items c.push.new.self.items c.loop-i.invariant
    (ap (λ (k : ℕ). k - get_or c.args.lowest.now c.loop-i.i 0) c.altitude_over-altitude.ensures) c.in_ok-push.ensures.items
