pub mod Box
pub mod Opened
pub mod Secrecy
pub mod Cases
