pub mod Rom
pub mod Parts
