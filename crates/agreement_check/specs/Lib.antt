pub mod Bits
pub mod Checking
pub mod Example
