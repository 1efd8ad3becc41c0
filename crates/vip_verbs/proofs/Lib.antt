mod FitLemmas
pub mod WorkLemmas
pub mod ProgramLemmas
pub mod LinkLemmas
mod DigestLemmas
