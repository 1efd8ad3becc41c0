pub mod Jumps
pub mod Shared
pub mod Loads
pub mod Skips
pub mod Arithmetic
pub mod Blocks
pub mod Addresses
pub mod Laws
