pub mod Machine
pub mod Engine
pub mod Given
pub mod SameSession
