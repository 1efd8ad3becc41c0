pub mod Parts
pub mod Cycle
pub mod Acts
pub mod Groups
