pub mod Numbered
pub mod Answers
pub mod laws
