pub mod Message
pub mod Kinds
