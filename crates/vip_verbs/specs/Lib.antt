pub mod Programs
pub mod Outcome
pub mod Opening
pub mod Prepared
