pub mod Lines
pub mod Room
pub mod Quiet
pub mod Scan
