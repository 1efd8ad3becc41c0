pub mod Codes
pub mod Device
pub mod Places
pub mod Setup
