pub mod Lines
pub mod Collected
pub mod Cells
pub mod LaidOut
pub mod PassOne
pub mod PassTwo
pub mod OnePass
pub mod Marking
pub mod Below
pub mod Surveys
pub mod Agrees
mod Placing
