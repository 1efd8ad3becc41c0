pub mod fetch
pub mod arith
pub mod memory
pub mod sprite
pub mod timer
pub mod keys
pub mod Parts
