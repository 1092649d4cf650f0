pub mod Stored
pub mod Report
pub mod Cases
