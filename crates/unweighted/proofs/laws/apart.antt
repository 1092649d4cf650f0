pub mod Records
pub mod Rules
pub mod Stores
pub mod Session
pub mod Delivery
pub mod Recording
pub mod Turn
pub mod Report
