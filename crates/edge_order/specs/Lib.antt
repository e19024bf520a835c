pub mod Keys
pub mod Tables
pub mod Order
pub mod OrderFields
