mod FileTreeLemmas
pub mod PiecesLemmas
pub mod SinkLemmas
mod StreamLemmas
mod SystemLemmas
