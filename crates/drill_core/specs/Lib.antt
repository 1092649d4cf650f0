pub mod Judging
pub mod Preparing
pub mod Acting
pub mod Feeding
pub mod Output
pub mod Parts
pub mod laws
