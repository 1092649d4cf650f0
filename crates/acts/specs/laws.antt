pub mod First
pub mod Choices
