pub mod Leading
pub mod Broadcasts
pub mod Cases
pub mod Outputs
pub mod Storing
pub mod Due
