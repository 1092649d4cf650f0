pub mod Paste
pub mod Each
pub mod Digits
pub mod DigitCases
pub mod Lengths
