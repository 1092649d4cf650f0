pub mod Commits
pub mod laws
