pub mod Session
pub mod laws
