pub mod SenseLemmas
pub mod DataLemmas
pub mod FieldLemmas
pub mod QuotientLemmas
pub mod TruthLemmas
pub mod PartsLemmas
pub mod StepLemmas
pub mod FullLemmas
mod MembershipLemmas
pub mod SharedLemmas
-- passed on to the crates above
pub use Rattle.wy_term_subst.proofs as wy_term_subst_proofs
