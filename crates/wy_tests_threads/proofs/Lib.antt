pub mod WithinLemmas
