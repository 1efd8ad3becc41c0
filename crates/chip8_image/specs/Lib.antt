pub mod Parts
pub mod Interpreters
