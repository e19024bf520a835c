use Rattle.edge_laws.proofs.Exactly.{joins-exactly, chain-exactly}
use Rattle.edge_laws.proofs.Sets.{IsRising-joins, IsRising-chain}
use Rattle.edge_laws.proofs.laws.joining_edges_and_chains.Goals as goal

pub returns-clause-joining : goal.returns-clause-joining
returns-clause-joining c = joins-exactly

pub returns-clause-joining_rise : goal.returns-clause-joining_rise
returns-clause-joining_rise c = IsRising-joins

pub returns-clause-chains : goal.returns-clause-chains
returns-clause-chains c = chain-exactly

pub returns-clause-chains_rise : goal.returns-clause-chains_rise
returns-clause-chains_rise c = IsRising-chain
