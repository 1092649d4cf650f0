pub mod Given
pub mod Votes
pub mod Cases
pub mod Told
pub mod Views
pub mod Versions
