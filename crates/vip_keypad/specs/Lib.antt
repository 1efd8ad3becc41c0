pub mod KeySet
pub mod KeyScript
pub mod KeypadState
pub mod Stretches
pub mod Entries
pub mod FaultNames
pub mod Held
