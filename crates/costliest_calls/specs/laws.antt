pub mod Sections
pub mod Adding
pub mod Numbering
pub mod Places
pub mod Small
pub mod Cases
