pub mod Finishing
pub mod Votes
pub mod laws
