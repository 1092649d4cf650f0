pub mod Given
pub mod Cases
pub mod Report
