pub mod Votes
pub mod Leads
pub mod Early
pub mod Insert
pub mod Having
pub mod Stated
pub mod Rising
