-- Contours of a picture in a tree.
use Rattle.std.proofs.Common.{◌≡◌, ℕ, List, length, ap, ◌∙◌, subst}
use Rattle.std.proofs.lemmas.List.{length-map}
use Rattle.hg_base.specs.Graph.{WeightedGraph}
use Rattle.tree_laws.specs.Tree.{ParentTree}
use Rattle.pgm_reader.specs.Grid.{edge_between, graph_of, links}
use Rattle.pgm_reader.specs.Raster.{IsRaster, Raster}
use Rattle.saliency.specs.Values.{AreLowestAltitudes}
use Rattle.contour_map.specs.Contours.{IsContourMap, PointGrid}
use Rattle.contour_map.specs.Drawn.{AreContoursIn}
use Rattle.contour_map.specs.Places.{AreEdgeValues}
use Rattle.contour_map.specs.Report.{contours_picture}

-- a value for each edge of the graph
pub edge-values : (r : Raster) (g : WeightedGraph) (values : List ℕ) → IsRaster r → g ≡ graph_of r → length values ≡ length g.edges → AreEdgeValues r.width r.height values
edge-values r g values is same long = record {
  some_width = is.some_width;
  some_height = is.some_height;
  pixels = is.pixels;
  one_each = long ∙ ap (λ (h : WeightedGraph). length h.edges) same ∙ length-map (links r.width r.height) (edge_between r.samples);
}

-- the picture of the map of the saliencies
pub contours-drawn : (r : Raster) (g : WeightedGraph) (tree : ParentTree) (values : List ℕ) (m : PointGrid) (bytes : List ℕ) → g ≡ graph_of r → AreLowestAltitudes g tree values
    → IsContourMap r.width r.height values m → bytes ≡ contours_picture m → AreContoursIn r tree bytes
contours-drawn r g tree values m bytes same saliencies contours drawn = record {
  values = values;
  saliencies = subst (λ (h : WeightedGraph). AreLowestAltitudes h tree values) same saliencies;
  map = m;
  contours = contours;
  drawn = drawn;
}
