-- the least fault is left
pub mod LeastLemmas
pub mod resolved_lemmas
