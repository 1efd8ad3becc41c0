pub mod ScreenLemmas
pub mod StateFiles
