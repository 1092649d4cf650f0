pub mod Session
pub mod Cases
