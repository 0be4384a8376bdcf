pub mod RunLemmas
pub mod ProperLemmas
