pub mod judge_lemmas
pub mod valid_lemmas
-- passed on to the crates above
pub use Rattle.wy_cert.proofs as wy_cert_proofs
pub use Rattle.wy_facts.proofs as wy_facts_proofs
pub use Rattle.wy_lin.proofs as wy_lin_proofs
pub use Rattle.wy_lin.proofs.wy_term_proofs as wy_term_proofs
pub use Rattle.wy_facts.proofs.wy_term_subst_proofs as wy_term_subst_proofs
pub use Rattle.wy_cert.proofs.wy_term_text_proofs as wy_term_text_proofs
