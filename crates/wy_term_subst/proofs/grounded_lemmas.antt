pub mod UniqueLemmas
pub mod ReadingLemmas
pub mod TruthLemmas
pub mod NumberLemmas
pub mod ChainLemmas
