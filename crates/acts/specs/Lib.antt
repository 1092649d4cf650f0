pub mod Acts
pub mod First
pub mod laws
