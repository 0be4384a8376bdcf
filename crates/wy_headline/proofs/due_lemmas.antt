pub mod DueLemmas
