pub mod Sets
pub mod Skips
pub mod Waits
pub mod Blocks
pub mod Addresses
pub mod Presses
pub mod Laws
