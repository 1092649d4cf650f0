pub mod Lines
pub mod Journal
pub mod laws
