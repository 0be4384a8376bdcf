pub mod VerdictLemmas
pub mod ExampleLemmas
pub mod ProgramLemmas
pub mod SharedLemmas
pub mod least_lemmas
-- passed on to the crates above
pub use Rattle.wy_check_spec.proofs as wy_check_spec_proofs
pub use Rattle.wy_check_spec.proofs.wy_facts_proofs as wy_facts_proofs
pub use Rattle.wy_lin_eliminate.proofs as wy_lin_eliminate_proofs
pub use Rattle.wy_check_spec.proofs.wy_term_proofs as wy_term_proofs
pub use Rattle.wy_check_spec.proofs.wy_term_subst_proofs as wy_term_subst_proofs
