pub mod MeantLemmas
