pub mod Parts
pub mod Steps
pub mod Cases
pub mod RunCases
pub mod Lined
