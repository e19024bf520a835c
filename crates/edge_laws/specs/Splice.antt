-- What one more edge of any rank does to the chains of a list.
use Rattle.std.specs.Prelude.{ℕ, ◌<◌, ◌⊎◌, Option, Some, None}
use Rattle.edge_laws.specs.Edges.{ListedEdge, EdgeList, Joined, below}

-- e leads out of the component of x: the edges of lower rank join x to one of its ends
abbrev pub LeadsOut : EdgeList → ℕ → ListedEdge → Type 0
LeadsOut s x e = (Joined (below s e.rank) x e.u × ¬ Joined (below s e.rank) x e.v) ⊎ (Joined (below s e.rank) x e.v × ¬ Joined (below s e.rank) x e.u)

-- the edge, if there is one, comes after rank r
abbrev pub ComesAfter : Option ListedEdge → ℕ → Type 0
ComesAfter None r = Unit {0}
ComesAfter (Some f) r = r < f.rank

-- by rank k the edges of s join x to an end of e
abbrev pub IsAtEnd : ListedEdge → EdgeList → ℕ → ℕ → Type 0
IsAtEnd e s k x = Joined (below s k) x e.u ⊎ Joined (below s k) x e.v

-- e's ends are joined by edges of lower rank
abbrev pub IsRedundant : ListedEdge → EdgeList → Type 0
IsRedundant e s = Joined (below s e.rank) e.u e.v
