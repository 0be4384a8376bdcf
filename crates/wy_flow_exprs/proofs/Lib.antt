mod KindLemmas
mod FormLemmas
mod LoopLemmas
mod FoundLemmas
pub mod checks_lemmas
-- passed on to the crates above
pub use Rattle.wy_flow_spec.proofs as wy_flow_spec_proofs
