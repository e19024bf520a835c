use Rattle.contour_map.proofs.MapPoints.{points-more}
use Rattle.contour_map.proofs.map.points.Goals as goal

pub loop-i-preserved : goal.loop-i-preserved
loop-i-preserved c = points-more _ c.loop-i.i c.point.result c.loop-i.points.items _ c.loop-i.invariant c.point.ensures c.in_ok-push.ensures.items
