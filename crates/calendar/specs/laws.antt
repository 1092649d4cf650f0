pub mod Search
pub mod Week
pub mod Found
pub mod Start
pub mod First
