use Rattle.contour_map.proofs.MapPoints.{is_contour_map}
use Rattle.contour_map.proofs.laws.contours_are_of_edges.Goals as goal

pub returns : goal.returns
returns c = is_contour_map
