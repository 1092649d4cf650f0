pub mod Recording
pub mod laws
