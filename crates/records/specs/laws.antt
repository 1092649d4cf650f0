pub mod Words
pub mod Layout
pub mod Fill
pub mod Copy
pub mod Sets
pub mod MarkWords
pub mod Bounds
pub mod Cases
