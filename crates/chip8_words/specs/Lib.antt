pub mod Table
pub mod Codes
pub mod Words
