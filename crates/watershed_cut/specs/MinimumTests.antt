-- The tests of minimum edges and of vertices in minima, and the labels of minima: 1, 2, .. in order of their heads.
use Rattle.std.specs.Prelude.{◌==◌, ℕ, suc, Bool, not, ◌&&◌, ◌||◌, filter, nat_lt, if◌then◌else◌}
use Rattle.std.specs.List.{list_any}
use Rattle.edge_laws.specs.Edges.{ListedEdge, EdgeList, joined}
use Rattle.hg_base.specs.Counting.{count_below, is_least}
use Rattle.hg_base.specs.Labels.{least_of}
use Rattle.watershed_cut.specs.Minima.{level}

-- the test of `IsEnd`
abbrev pub has_end : ℕ → ListedEdge → Bool
has_end x e = (e.u == x) || (e.v == x)

-- f is lesser than e, and the edges of e's weight join e to an end of f
abbrev pub is_lower : EdgeList → ListedEdge → ListedEdge → Bool
is_lower s e f = nat_lt f.weight e.weight && (joined (level s e.weight) e.u f.u || joined (level s e.weight) e.u f.v)

-- the test of `IsMinimumEdge`, of an edge of the list
abbrev pub is_minimum : EdgeList → ListedEdge → Bool
is_minimum s e = not (list_any (is_lower s e) s)

-- the minimum edges
abbrev pub minimum_edges : EdgeList → EdgeList
minimum_edges s = filter (is_minimum s) s

-- the test of `HasNoEdge`
abbrev pub has_no_edge : EdgeList → ℕ → Bool
has_no_edge s x = not (list_any (has_end x) s)

-- the test of `InMinimum`
abbrev pub in_minimum : ℕ → EdgeList → ℕ → Bool
in_minimum n s x = nat_lt x n && (has_no_edge s x || list_any (has_end x) (minimum_edges s))

-- the test of `SameMinimum`: both are in a minimum, and the minimum edges join them
abbrev pub same_minimum : ℕ → EdgeList → ℕ → ℕ → Bool
same_minimum n s x y = in_minimum n s x && (in_minimum n s y && joined (minimum_edges s) x y)

-- the test of `IsHead`
abbrev pub is_head : ℕ → EdgeList → ℕ → Bool
is_head n s x = in_minimum n s x && is_least (same_minimum n s) x

-- how many minima there are: as many as heads
abbrev pub minimum_count : ℕ → EdgeList → ℕ
minimum_count n s = count_below (is_head n s) n

-- the label of x: 1 and how many heads are less than that of its minimum, or 0 where it is in none
abbrev pub vertex_label : ℕ → EdgeList → ℕ → ℕ
vertex_label n s x = if in_minimum n s x then suc (count_below (is_head n s) (least_of (same_minimum n s) x)) else 0

-- the label of a minimum edge is that of its first end, and of another edge 0
abbrev pub edge_label : ℕ → EdgeList → ListedEdge → ℕ
edge_label n s e = if is_minimum s e then vertex_label n s e.u else 0
