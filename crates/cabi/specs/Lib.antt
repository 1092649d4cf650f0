pub mod Answers
pub mod Restored
pub mod Replies
pub mod Starts
pub mod Conversions
pub mod laws
