pub mod Components
pub mod MinTree
pub mod Weighed
pub mod Values
pub mod ValuesFields
pub mod TreeFields
pub mod Report
pub mod NodeComponents
