-- Edge lists in rising rank.
use Rattle.std.specs.Prelude.{◌<◌, [], ◌∷◌}
use Rattle.edge_laws.specs.Edges.{ListedEdge, EdgeList}
use Rattle.hg_base.specs.Lists.{IsIn}

-- each edge has a lower rank than all after it
abbrev pub IsRising : EdgeList → Type 0
IsRising [] = Unit {0}
IsRising (e ∷ s) = ((f : ListedEdge) → IsIn f s → e.rank < f.rank) × IsRising s
