use Rattle.std.proofs.Common.{◌*◌, get_or, refl}
use Rattle.partition_tree.proofs.ListsByNumber.{values_more}
use Rattle.attributes.proofs.leaves.products.Goals as goal

pub loop-x-preserved : goal.loop-x-preserved
loop-x-preserved c =
    values_more (λ x. get_or c.args.areas.now x 0 * get_or c.args.floors.now x 0) c.loop-x.x _ c.loop-x.products.items c.push.new.self.items c.loop-x.invariant refl c.in_ok-push.ensures.items
