pub mod Facts
pub mod Stepping
pub mod Moments
