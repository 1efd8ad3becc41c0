pub mod Banks
pub mod Words
