pub mod UpdateLemmas
