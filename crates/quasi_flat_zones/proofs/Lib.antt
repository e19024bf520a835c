pub mod ZoneNumberLemmas
pub mod ZonesWellFormed
