pub mod Certificate
pub mod Reading
pub mod Table
pub mod Closed
pub mod Leaving
pub mod FaultNames
pub mod Exits
pub mod Found
