pub mod Journal
pub mod Parts
pub mod Fitting
pub mod Cases
