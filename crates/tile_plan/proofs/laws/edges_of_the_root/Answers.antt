use Rattle.tile_plan.proofs.RootEdges.{root-all, root-count, root-joins, root-chain}
use Rattle.tile_plan.proofs.laws.edges_of_the_root.Goals as goal

pub returns-clause-all : goal.returns-clause-all
returns-clause-all c = root-all

pub returns-clause-count : goal.returns-clause-count
returns-clause-count c = root-count

pub returns-clause-joining : goal.returns-clause-joining
returns-clause-joining c = root-joins

pub returns-clause-chains : goal.returns-clause-chains
returns-clause-chains c = root-chain
