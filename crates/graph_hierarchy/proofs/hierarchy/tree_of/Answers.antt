use Rattle.graph_hierarchy.proofs.RootLemmas.{root_starts, root_covers}
use Rattle.graph_hierarchy.proofs.hierarchy.tree_of.Goals as goal

pub of_part_in_threads-requires-clause-first : goal.of_part_in_threads-requires-clause-first
of_part_in_threads-requires-clause-first g c κs within = root_starts _ _ c.in_ok-part.ensures.plan c.in_ok-part.ensures.part

pub of_part_in_threads-requires-clause-places : goal.of_part_in_threads-requires-clause-places
of_part_in_threads-requires-clause-places g c κs within = root_covers _ _ c.in_ok-part.ensures.plan c.in_ok-part.ensures.part
