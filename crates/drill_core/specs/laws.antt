pub mod JudgingCases
pub mod FeedingCases
pub mod OutputCases
pub mod Parts
