pub mod Rules
pub mod Thresholds
pub mod Cases
pub mod Unnamed
pub mod Versions
pub mod Counting
pub mod Answers
