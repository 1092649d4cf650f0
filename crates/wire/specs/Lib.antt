pub mod Bytes
pub mod Message
pub mod Kinds
pub mod Writing
pub mod Reading
pub mod laws
