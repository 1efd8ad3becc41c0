pub mod Number
pub mod HexText
pub mod Text
pub mod Room
pub mod Reading
