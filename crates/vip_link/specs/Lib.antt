pub mod Pair
pub mod Roms
pub mod Schedules
pub mod Laws
pub mod Checked
pub mod Links
pub mod Kept
