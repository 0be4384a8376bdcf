pub mod SpelledLemmas
pub mod ReadLemmas
pub mod CertifiedLemmas
pub mod TruthLemmas
