-- Edge lists of which one has an edge less.
use Rattle.std.specs.Prelude.{◌≢◌, ◌↔◌}
use Rattle.edge_laws.specs.Edges.{ListedEdge, EdgeList}
use Rattle.hg_base.specs.Lists.{IsIn}

-- f is an edge of s, and the edges of t are the others
pub record IsWithout (s : EdgeList) (f : ListedEdge) (t : EdgeList) : Type 0 where
  pub member : IsIn f s
  pub others : (e : ListedEdge) → IsIn e t ↔ (IsIn e s × (e ≢ f))
