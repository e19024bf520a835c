use Rattle.std.proofs.Common.{◌*◌, ◌≤◌, arith}
use Rattle.pgm_reader.proofs.Grids.{is-graph}
use Rattle.pgm_reader.proofs.grid.graph.Goals as goal

pub overflow_mul-width : goal.overflow_mul-width
overflow_mul-width g c =
    let few : c.width.result * c.height.result ≤ 1048576 = rw (c.width.ensures.value, c.height.ensures.value) c.width.ensures.picture.pixels in
    omega (arith, few)

pub new-requires : goal.new-requires
new-requires g c = rw (c.width.ensures.value, c.height.ensures.value, c.in_ok-edges.ensures) (is-graph c.args.picture.now c.width.ensures.picture)
