use Rattle.higra_report.proofs.SharedRoots.{shared_roots}
use Rattle.higra_report.proofs.sides.saliencies_of.Goals as goal

pub saliency_in_threads-requires-clause-roots : goal.saliency_in_threads-requires-clause-roots
saliency_in_threads-requires-clause-roots g c κs within = shared_roots c.args.graph.now c.args.tree.now c.requires
