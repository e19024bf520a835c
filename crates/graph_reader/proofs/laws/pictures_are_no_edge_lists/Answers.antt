use Rattle.graph_reader.proofs.Pictures.{begins-with-P}
use Rattle.graph_reader.proofs.laws.pictures_are_no_edge_lists.Goals as goal

pub returns : goal.returns
returns c = begins-with-P
