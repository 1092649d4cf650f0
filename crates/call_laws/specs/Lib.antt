pub mod Parts
pub mod Keeping
pub mod ReadBack
pub mod Places
pub mod SettingsKept
pub mod Earlier
pub mod FirstVersion
