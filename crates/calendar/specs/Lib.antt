pub mod Calendar
pub mod First
pub mod laws
