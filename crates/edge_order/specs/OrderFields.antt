-- What the fields of an order stand for.
use Rattle.std.specs.Prelude.{◌≡◌, ◌≤◌, length, map, All}
use Rattle.hg_base.specs.Graph.{WeightedGraph, JoinsTwo, with_unit_areas}
use Rattle.edge_order.specs.Order.{EdgeOrder, order_of}
use Rattle.edge_order.specs.Keys.{unpacked}
use Rattle.edge_order.specs.Tables.{AreRising, sorted_keys_of}
use Rattle.edge_order.specs.declared.order.Order.TheInside.{Inside}

-- the graph of the edges; ranks don't depend on areas
abbrev pub graph_in : Inside → WeightedGraph
graph_in o = with_unit_areas o.n o.edges.items

abbrev pub order_in : Inside → EdgeOrder
order_in o = order_of (graph_in o)

-- the fields are the tables of a graph
pub record IsTable (o : Inside) : Type 0 where
  pub few : length o.edges.items ≤ 4194304
  pub keys : map unpacked o.keys.items ≡ sorted_keys_of (graph_in o)
  pub rising : AreRising o.keys.items
  pub ends : All (JoinsTwo o.n) o.edges.items
