pub mod Cuts
pub mod Energies
pub mod Regions
pub mod EnergyCutFields
pub mod LeastEnergies
pub mod Report
