pub mod Altitudes
pub mod Drawing
pub mod Planning
pub mod Reports
pub mod Findings
pub mod Summary
pub mod Theorems
