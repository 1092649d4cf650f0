pub mod Given
pub mod Arguments
pub mod Opening
pub mod laws
