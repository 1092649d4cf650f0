pub mod Stored
pub mod Due
pub mod Turn
pub mod Told
pub mod Choosing
pub mod Deciding
pub mod Admitting
pub mod Taking
