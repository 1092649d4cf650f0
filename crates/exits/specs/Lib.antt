pub mod Exits
pub mod Standing
pub mod Stated
pub mod Exactly
pub mod laws
