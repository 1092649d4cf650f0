pub mod Leading
pub mod Broadcasts
pub mod Outputs
pub mod laws
