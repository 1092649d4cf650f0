pub mod Held
pub mod Columns
pub mod Recording
pub mod Keeping
pub mod Staying
pub mod Deciding
