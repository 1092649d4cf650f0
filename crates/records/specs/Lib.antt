pub mod Words
pub mod Layout
pub mod Records
pub mod Writing
pub mod MarkWords
pub mod Sets
pub mod laws
