pub mod ZoneNumbers
