use Rattle.graph_reader.proofs.Spelling.{graph-says, graph-ok}
use Rattle.graph_reader.proofs.laws.edge_lists_are_spellings.Goals as goal

pub returns-clause-read : goal.returns-clause-read
returns-clause-read c = graph-says

pub returns-clause-only : goal.returns-clause-only
returns-clause-only c = graph-ok
