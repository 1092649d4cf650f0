pub mod Theorem
pub mod Examples
pub mod Printing
pub mod Lines
