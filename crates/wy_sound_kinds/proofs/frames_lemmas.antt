pub mod EveryLemmas
pub mod FrameLemmas
