pub mod NumberLemmas
pub mod TextLemmas
pub mod WrittenLemmas
pub mod RangeLemmas
pub mod ReadingLemmas
mod DigitLemmas
