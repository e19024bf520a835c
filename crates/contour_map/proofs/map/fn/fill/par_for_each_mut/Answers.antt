use Rattle.std.proofs.Common.{arith}
use Rattle.contour_map.proofs.MapPoints.{few-points}
use Rattle.contour_map.proofs.map.fn.fill.par_for_each_mut.Goals as goal

pub overflow_cast-i : goal.overflow_cast-i
overflow_cast-i c =
    let are = c.requires.0 in
    omega (arith, few-points c.captures.edges.now.width c.captures.edges.now.height are.some_width are.some_height are.pixels, c.requires.1)
