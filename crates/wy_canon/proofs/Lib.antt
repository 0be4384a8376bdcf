mod StepLemmas
pub mod NumberedLemmas
-- passed on to the crates above
pub use Rattle.wy_types.proofs as wy_types_proofs
