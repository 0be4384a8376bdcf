pub mod PlainLemmas
pub mod ExamplesHold
pub mod TreeLemmas
pub mod SharedLemmas
