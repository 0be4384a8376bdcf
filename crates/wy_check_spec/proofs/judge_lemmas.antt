pub mod TruthLemmas
