pub mod Complete
pub mod Reading
pub mod Restoring
pub mod laws
