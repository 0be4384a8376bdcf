pub mod PartLemmas
pub mod LoopLemmas
pub mod SeenLemmas
