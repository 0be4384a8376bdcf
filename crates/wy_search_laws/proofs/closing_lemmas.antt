pub mod RelatedLemmas
pub mod AtLeastLemmas
pub mod NameLemmas
pub mod Closing
pub mod FoldedLemmas
pub mod BestLemmas
pub mod SortedLemmas
