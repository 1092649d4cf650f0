pub mod Refusals
pub mod Settings
pub mod Versions
pub mod Rules
pub mod Check
pub mod laws
