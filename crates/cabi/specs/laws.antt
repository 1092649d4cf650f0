pub mod Cases
pub mod Starts
pub mod Conversions
