pub mod Time
pub mod Running
pub mod States
pub mod Display
pub mod Laws
pub mod Image
pub mod Timeline
