-- The least forest that is rooted in the minima (Cousty and others, Watershed Cuts, 2009), by edges in order of rank.
use Rattle.std.specs.Prelude.{◌≡◌, ℕ, Bool, true, not, ◌&&◌, ◌⊎◌, List, ◌++◌, filter}
use Rattle.std.specs.List.{range_with_len, list_any}
use Rattle.hg_base.specs.Graph.{WeightedGraph}
use Rattle.edge_laws.specs.Edges.{ListedEdge, EdgeList, AreApart, Joined, joined, below, is_joining, joins}
use Rattle.hg_base.specs.Lists.{IsIn}
use Rattle.edge_laws.specs.Rank.{numbers, ranked}
use Rattle.watershed_cut.specs.Minima.{IsMinimumEdge, InMinimum}
use Rattle.watershed_cut.specs.MinimumTests.{is_minimum, minimum_edges, in_minimum}
use Rattle.watershed_cut.specs.MinimumLabels.{numbered}

-- the edges of rank below k join x to a vertex in a minimum
abbrev pub Reaches : ℕ → EdgeList → ℕ → ℕ → Type 0
Reaches n s k x = (y : ℕ) × (InMinimum n s y × Joined (below s k) x y)

-- e is a forest edge: it joins, is no minimum edge, and has an end that edges of lower rank join to no minimum
pub record IsForestEdge (n : ℕ) (s : EdgeList) (e : ListedEdge) : Type 0 where
  pub joins : IsIn e (joins s)
  pub outside : ¬ IsMinimumEdge s e
  pub grows : (¬ Reaches n s e.rank e.u) ⊎ (¬ Reaches n s e.rank e.v)

-- the test of `Reaches`
abbrev pub reaches : ℕ → EdgeList → ℕ → ℕ → Bool
reaches n s k x = list_any (λ y. in_minimum n s y && joined (below s k) x y) (range_with_len 0 n)

-- the test of `IsForestEdge`, of an edge of the list
abbrev pub is_forest : ℕ → EdgeList → ListedEdge → Bool
is_forest n s e = is_joining s e && (not (is_minimum s e) && not (reaches n s e.rank e.u && reaches n s e.rank e.v))

-- the trees: the forest edges and the minimum edges
abbrev pub trees : ℕ → EdgeList → EdgeList
trees n s = filter (is_forest n s) s ++ minimum_edges s

-- the numbers of a graph's forest edges, rising
abbrev pub forest : WeightedGraph → List ℕ
forest g = filter (λ e. is_forest g.n (ranked g) (numbered g e)) (numbers g)

-- f is a list of the forest edges of s, each once
pub record IsForestList (n : ℕ) (s f : EdgeList) : Type 0 where
  pub apart : AreApart f
  pub forest : (e : ListedEdge) → IsIn e f → IsIn e s × (is_forest n s e ≡ true)
  pub all : (e : ListedEdge) → IsIn e s → is_forest n s e ≡ true → IsIn e f
