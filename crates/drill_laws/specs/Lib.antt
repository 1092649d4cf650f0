pub mod Sound
pub mod Inside
pub mod Stored
pub mod Demands
pub mod ByLines
pub mod OutputLength
