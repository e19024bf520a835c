use Rattle.std.proofs.Common.{arith}
use Rattle.contour_map.proofs.MapPoints.{few-points}
use Rattle.contour_map.proofs.map.point_count.Goals as goal

pub overflow_mul-result-3 : goal.overflow_mul-result-3
overflow_mul-result-3 c =
    let are = c.requires in
    omega (arith, few-points c.args.edges.now.width c.args.edges.now.height are.some_width are.some_height are.pixels)

pub returns-clause-few : goal.returns-clause-few
returns-clause-few c =
    let are = c.requires in
    few-points c.args.edges.now.width c.args.edges.now.height are.some_width are.some_height are.pixels
