pub mod Beginning
pub mod Past
pub mod Steps
pub mod Meetings
pub mod Reading
mod ByRun
mod Advances
mod Closing
pub mod Waits
pub mod Passing
pub mod Nexts
mod Telling
pub mod Sizes
