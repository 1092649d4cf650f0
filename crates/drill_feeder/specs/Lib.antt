pub mod Parts
pub mod Steps
pub mod Lines
pub mod laws
