pub mod Commits
pub mod Cases
pub mod Sets
