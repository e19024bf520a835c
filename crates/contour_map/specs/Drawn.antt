-- The contours of a picture in a tree over its pixels, drawn.
use Rattle.std.specs.Prelude.{◌≡◌, ℕ, List}
use Rattle.tree_laws.specs.Tree.{ParentTree}
use Rattle.pgm_reader.specs.Grid.{graph_of}
use Rattle.pgm_reader.specs.Raster.{Raster}
use Rattle.saliency.specs.Values.{AreLowestAltitudes}
use Rattle.contour_map.specs.Contours.{IsContourMap, PointGrid}
use Rattle.contour_map.specs.Report.{contours_picture}

-- the picture of the contour map by the saliencies of the picture's edges, which are the altitudes of the lowest common
-- ancestors of their ends in the tree
pub record AreContoursIn (raster : Raster) (tree : ParentTree) (bytes : List ℕ) : Type 0 where
  pub values : List ℕ
  pub saliencies : AreLowestAltitudes (graph_of raster) tree values
  pub map : PointGrid
  pub contours : IsContourMap raster.width raster.height values map
  pub drawn : bytes ≡ contours_picture map
