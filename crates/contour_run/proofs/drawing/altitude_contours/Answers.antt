use Rattle.higra_report.proofs.SharedRoots.{shared_roots}
use Rattle.contour_run.proofs.drawing.altitude_contours.Goals as goal

pub draw_contours-requires-clause-roots : goal.draw_contours-requires-clause-roots
draw_contours-requires-clause-roots g c κs within = shared_roots c.args.graph.now c.args.tree.now c.requires.tree
