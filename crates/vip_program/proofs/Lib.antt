pub mod Starts
pub mod Runs
pub mod Texts
pub mod Bus
pub mod Makes
pub mod Stretches
pub mod Takes
pub mod Tracing
pub mod Shows
pub mod FramePictures
pub mod Picturing
pub mod Framing
pub mod Counting
pub mod Rows
pub mod Instructing
mod Labelled
