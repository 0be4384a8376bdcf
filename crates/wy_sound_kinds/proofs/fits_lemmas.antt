pub mod FitLemmas
