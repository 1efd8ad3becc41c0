pub mod Splits
pub mod Sums
pub mod Opcodes
pub mod Many
pub mod Texts
pub mod Statements
pub mod Takes
mod NameTree
mod Chosen
mod Binary
mod Places
mod NumberTerms
pub mod OneLanguage
