pub mod Delivery
pub mod laws
