pub mod Gathers
pub mod GatheredUp
pub mod LeafValues
pub mod LightestEdges
pub mod LowFloors
pub mod Totals
pub mod AttributesOfGraph
