pub mod WeightsWord
pub mod Given
pub mod Opening
pub mod GivenCases
pub mod Cases
pub mod Ones
pub mod Unnamed
