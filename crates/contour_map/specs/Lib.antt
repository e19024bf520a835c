pub mod Places
pub mod Contours
pub mod Scaling
pub mod Report
pub mod Drawn
