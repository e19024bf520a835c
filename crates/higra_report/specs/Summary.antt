-- The summary of a graph: counts and sums of what the other reports write one by one.
use Rattle.std.specs.Prelude.{ℕ, List, [], ◌∷◌, ◌++◌, codes, fold, length, max, sum}
use Rattle.hg_base.specs.Graph.{WeightedGraph}
use Rattle.edge_laws.specs.Saliencies.{saliencies}
use Rattle.hg_base.specs.Text.{headed_line}
use Rattle.tree_laws.specs.Tree.{graph_tree}
use Rattle.tree_laws.specs.Zones.{zones_of}
use Rattle.partition_tree.specs.TreeLists.{nodes}
use Rattle.watershed_cut.specs.Forest.{forest}
use Rattle.watershed_cut.specs.MinimumLabels.{minima_of}
use Rattle.watershed_cut.specs.Rooted.{cost}
use Rattle.watershed_cut.specs.Watershed.{watershed_of}
use Rattle.higra_report.specs.declared.summary.Summary.{Summary}

-- the greatest number of a list, or 0 where it has none
abbrev pub greatest : List ℕ → ℕ
greatest xs = fold max 0 xs

-- the summary of a graph
abbrev pub summary_of : WeightedGraph → Summary
summary_of g = record {
  vertices = g.n;
  edges = length g.edges;
  nodes = nodes (graph_tree g);
  zones = nodes (zones_of (graph_tree g));
  root = greatest (graph_tree g).altitudes;
  saliency = sum (saliencies g);
  minima = (minima_of g).count;
  forest = length (forest g);
  weight = cost g (forest g);
  cut = length (watershed_of g).cut;
}

-- a line for each number, with its word
abbrev pub summary_report : Summary → List ℕ
summary_report s =
    headed_line (codes "vertices") (s.vertices ∷ [])
    ++ headed_line (codes "edges") (s.edges ∷ [])
    ++ headed_line (codes "nodes") (s.nodes ∷ [])
    ++ headed_line (codes "zones") (s.zones ∷ [])
    ++ headed_line (codes "root") (s.root ∷ [])
    ++ headed_line (codes "saliency") (s.saliency ∷ [])
    ++ headed_line (codes "minima") (s.minima ∷ [])
    ++ headed_line (codes "forest") (s.forest ∷ [])
    ++ headed_line (codes "weight") (s.weight ∷ [])
    ++ headed_line (codes "cut") (s.cut ∷ [])
