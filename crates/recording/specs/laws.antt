pub mod Recording
pub mod Cases
