pub mod NameLemmas
pub mod BranchLemmas
pub mod AddingLemmas
pub mod JudgingLemmas
pub mod TrailLemmas
pub mod ShutLemmas
pub mod StandingLemmas
pub mod SumsBranchLemmas
pub mod FormLemmas
pub mod OverLemmas
pub mod GatheredLemmas
pub mod CutLemmas
pub mod SharedLemmas
pub mod fronts_lemmas
-- passed on to the crates above
pub use Rattle.wy_check_spec.proofs.wy_facts_proofs as wy_facts_proofs
pub use Rattle.wy_check_spec.proofs.wy_lin_proofs as wy_lin_proofs
pub use Rattle.wy_check_spec.proofs.wy_term_proofs as wy_term_proofs
pub use Rattle.wy_check_spec.proofs.wy_term_subst_proofs as wy_term_subst_proofs
pub use Rattle.wy_check_spec.proofs.wy_term_text_proofs as wy_term_text_proofs
