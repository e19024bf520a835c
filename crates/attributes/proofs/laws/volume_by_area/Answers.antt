use Rattle.tree_laws.specs.Tree.{graph_tree}
use Rattle.attributes.specs.Attributes.{vertices_below, altitude_over}
use Rattle.attributes.proofs.LowFloors.{floors-low}
use Rattle.attributes.proofs.Totals.{balance, vertex-in}
use Rattle.attributes.proofs.laws.volume_by_area.Goals as goal

pub returns : goal.returns
returns c = λ g i graph h.
    balance g (altitude_over (graph_tree g) i) (vertices_below (graph_tree g) i)
    (λ x m. let v = vertex-in (graph_tree g) i x m in floors-low g graph i x h v.0 v.1)
