pub mod Banks
pub mod Machines
pub mod Moving
