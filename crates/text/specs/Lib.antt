pub mod Fields
pub mod Numbers
pub mod Paste
pub mod laws
