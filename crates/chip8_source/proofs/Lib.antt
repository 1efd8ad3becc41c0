pub mod OneAnswer
pub mod Gives
pub mod Computed
