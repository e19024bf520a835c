use Rattle.edge_laws.proofs.Exactly.{front-exactly}
use Rattle.tree_laws.proofs.Leaves.{component-node, node-component, leaves-once}
use Rattle.tree_laws.proofs.laws.components_of_the_fronts.Goals as goal

pub returns-clause-front : goal.returns-clause-front
returns-clause-front c = front-exactly

pub returns-clause-each_component : goal.returns-clause-each_component
returns-clause-each_component c = component-node

pub returns-clause-each_node : goal.returns-clause-each_node
returns-clause-each_node c = node-component

pub returns-clause-once : goal.returns-clause-once
returns-clause-once c = leaves-once
