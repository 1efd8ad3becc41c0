pub mod KeySetLemmas
pub mod EntriesLemmas
pub mod HeldLemmas
