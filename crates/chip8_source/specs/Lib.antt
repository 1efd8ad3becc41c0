pub mod Texts
pub mod Compared
pub mod Faults
