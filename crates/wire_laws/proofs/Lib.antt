pub mod Digits
pub mod RoundTrip
pub mod Parts
pub mod Converse
pub mod laws
