use Rattle.energy_cut.proofs.Chosen.{leaf-below}
use Rattle.energy_cut.proofs.laws.nodes_have_leaves.Goals as goal

pub returns : goal.returns
returns c = λ n s i apart within h. leaf-below n s apart within i h
