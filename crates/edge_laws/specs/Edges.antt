-- Edge lists: who is joined, which edges join, and the chain of a vertex (Najman, Cousty and Perret 2013).
-- The edges of a list have different ranks; each has two ends, and a weight and a number where a definition reads them.
use Rattle.std.specs.Prelude.{◌≡◌, ◌==◌, ℕ, ◌+◌, ◌<◌, Bool, not, ◌&&◌, ◌||◌, ◌⊎◌, List, [], ◌∷◌, map, filter, nat_lt, nat_le, Option, Some, None, if◌then◌else◌}
use Rattle.std.specs.List.{range_with_len}
use Rattle.hg_base.specs.Lists.{IsIn}
use Rattle.hg_base.specs.Counting.{count_below, is_least}

-- an edge of an edge list
pub record ListedEdge : Type 0 where
  pub rank : ℕ
  pub u : ℕ
  pub v : ℕ
  pub weight : ℕ
  pub number : ℕ

abbrev pub EdgeList : Type 0
EdgeList = List ListedEdge

-- the ends of e are x and y, either way round
abbrev pub AreEnds : ListedEdge → ℕ → ℕ → Type 0
AreEnds e x y = ((e.u ≡ x) × (e.v ≡ y)) ⊎ ((e.v ≡ x) × (e.u ≡ y))

-- from x through the listed vertices, of which the last is y; each two neighbours are the ends of an edge
abbrev pub IsWalk : EdgeList → ℕ → List ℕ → ℕ → Type 0
IsWalk edges x [] y = x ≡ y
IsWalk edges x (z ∷ zs) y = ((e : ListedEdge) × (IsIn e edges × AreEnds e x z)) × IsWalk edges z zs y

-- a walk leads from x to y
abbrev pub Joined : EdgeList → ℕ → ℕ → Type 0
Joined edges x y = (zs : List ℕ) × IsWalk edges x zs y

-- both lists hold the same edges
pub record IsSameSet (s t : EdgeList) : Type 0 where
  pub on : (e : ListedEdge) → IsIn e s → IsIn e t
  pub back : (e : ListedEdge) → IsIn e t → IsIn e s

-- no two edges of the list have one rank
abbrev pub AreApart : EdgeList → Type 0
AreApart [] = Unit {0}
AreApart (e ∷ s) = ((f : ListedEdge) → IsIn f s → e.rank ≡ f.rank → ⊥) × AreApart s

-- both ends of each edge are below n
abbrev pub AreWithin : ℕ → EdgeList → Type 0
AreWithin n s = (e : ListedEdge) → IsIn e s → (e.u < n) × (e.v < n)

-- who is joined once u and v are, where r says who was before
abbrev pub link : (ℕ → ℕ → Bool) → ℕ → ℕ → ℕ → ℕ → Bool
link r u v x y = r x y || ((r x u && r v y) || (r x v && r u y))

-- the test of `Joined`
abbrev pub joined : EdgeList → ℕ → ℕ → Bool
joined [] x y = x == y
joined (e ∷ edges) x y = link (joined edges) e.u e.v x y

-- the vertices 0 to n - 1 that are joined to x, rising
abbrev pub component : ℕ → EdgeList → ℕ → List ℕ
component n edges x = filter (joined edges x) (range_with_len 0 n)

-- the edges of rank below k
abbrev pub below : EdgeList → ℕ → EdgeList
below s k = filter (λ e. nat_lt e.rank k) s

-- the list with e in front of the first edge of higher rank
abbrev pub placed_by_rank : ListedEdge → EdgeList → EdgeList
placed_by_rank e [] = e ∷ []
placed_by_rank e (f ∷ s) = if nat_lt e.rank f.rank then e ∷ f ∷ s else f ∷ placed_by_rank e s

-- the edges in rising rank
abbrev pub in_order : EdgeList → EdgeList
in_order [] = []
in_order (e ∷ s) = placed_by_rank e (in_order s)

-- the ends of e aren't joined by the edges of lower rank
abbrev pub is_joining : EdgeList → ListedEdge → Bool
is_joining s e = not (joined (below s e.rank) e.u e.v)

-- the joining edges in rising rank: a least spanning forest
abbrev pub joins : EdgeList → EdgeList
joins s = filter (is_joining s) (in_order s)

-- an end of e is joined to x by the edges of lower rank
abbrev pub touches : EdgeList → ℕ → ListedEdge → Bool
touches s x e = joined (below s e.rank) x e.u || joined (below s e.rank) x e.v

-- the chain of x: the joining edges that touch it, in rising rank
abbrev pub chain : EdgeList → ℕ → EdgeList
chain s x = filter (touches s x) (joins s)

-- the first edge of a list, if there is one
abbrev pub first_edge : EdgeList → Option ListedEdge
first_edge [] = None
first_edge (e ∷ s) = Some e

-- the first edge of rank k or more on the chain of x
abbrev pub next : EdgeList → ℕ → ℕ → Option ListedEdge
next s x k = first_edge (filter (λ e. nat_le k e.rank) (chain s x))

-- what comes next after two chains are merged: the edge of lower rank; where both have one edge next, it joins
-- nothing any more, and what comes after it is next
abbrev pub merged : EdgeList → Option ListedEdge → Option ListedEdge → Option ListedEdge
merged s None q = q
merged s (Some f) None = Some f
merged s (Some f) (Some g) = if nat_lt f.rank g.rank then Some f else (if nat_lt g.rank f.rank then Some g else next s f.u (f.rank + 1))

-- the number of components: of the vertices below n that are the least of their component
abbrev pub components : ℕ → EdgeList → ℕ
components n s = count_below (is_least (joined s)) n

-- the edge with its ends renamed
abbrev pub renamed_edge : (ℕ → ℕ) → ListedEdge → ListedEdge
renamed_edge f e = record { rank = e.rank; u = f e.u; v = f e.v; weight = e.weight; number = e.number }

-- the edges with the vertices renamed
abbrev pub renamed : (ℕ → ℕ) → EdgeList → EdgeList
renamed f s = map (renamed_edge f) s

-- the chains of x and y share an edge of rank below k
abbrev pub ShareBelow : EdgeList → ℕ → ℕ → ℕ → Type 0
ShareBelow s k x y = (e : ListedEdge) × (IsIn e (chain s x) × (IsIn e (chain s y) × (e.rank < k)))
