-- Edge lists that join the same vertices, rank by rank.
use Rattle.std.specs.Prelude.{ℕ, ◌↔◌}
use Rattle.edge_laws.specs.Edges.{EdgeList, Joined, below}

-- up to each rank both lists join the same vertices
abbrev pub JoinAlike : EdgeList → EdgeList → Type 0
JoinAlike s t = (k x y : ℕ) → Joined (below s k) x y ↔ Joined (below t k) x y
