pub mod AtomLemmas
pub mod EndLemmas
pub mod RoundLemmas
