pub mod PlaceLemmas
pub mod SignedLemmas
