pub mod Applying
pub mod Frame
pub mod Decisions
pub mod Marks
