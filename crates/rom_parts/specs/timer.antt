pub mod Code
pub mod Frame
pub mod Routine
pub mod Scan
pub mod Laws
