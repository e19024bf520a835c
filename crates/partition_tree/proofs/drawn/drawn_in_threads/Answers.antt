use Rattle.partition_tree.proofs.drawn.drawn_in_threads.Goals as goal

pub returns : goal.returns
returns g c = rw c.in_ok-parents.ensures c.in_ok-numbering.ensures.drawn
