-- The numbers of a summary that take long to find, in the groups in which they are found.
use Rattle.std.specs.Prelude.{length, sum}
use Rattle.hg_base.specs.Graph.{WeightedGraph}
use Rattle.edge_laws.specs.Saliencies.{saliencies}
use Rattle.tree_laws.specs.Tree.{graph_tree}
use Rattle.tree_laws.specs.Zones.{zones_of}
use Rattle.partition_tree.specs.TreeLists.{nodes}
use Rattle.watershed_cut.specs.Forest.{forest}
use Rattle.watershed_cut.specs.MinimumLabels.{minima_of}
use Rattle.watershed_cut.specs.Rooted.{cost}
use Rattle.watershed_cut.specs.Watershed.{watershed_of}
use Rattle.higra_report.specs.declared.findings.CutNumbers.{CutNumbers}
use Rattle.higra_report.specs.declared.findings.Findings.{Findings}

-- the numbers of the watershed cut of a graph
abbrev pub cut_numbers_of : WeightedGraph → CutNumbers
cut_numbers_of g = record {
  minima = (minima_of g).count;
  forest = length (forest g);
  weight = cost g (forest g);
  cut = length (watershed_of g).cut;
}

-- those and the counts of the zones and of the saliencies
abbrev pub findings_of : WeightedGraph → Findings
findings_of g = record {
  zones = nodes (zones_of (graph_tree g));
  saliency = sum (saliencies g);
  cut = cut_numbers_of g;
}
