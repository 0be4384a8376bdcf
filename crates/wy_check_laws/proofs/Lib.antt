pub mod reread_lemmas
pub mod sound_lemmas
-- passed on to the crates above
pub use Rattle.wy_check_spec.proofs.wy_facts_proofs as wy_facts_proofs
pub use Rattle.wy_check_spec.proofs.wy_term_proofs as wy_term_proofs
pub use Rattle.wy_check_spec.proofs.wy_term_text_proofs as wy_term_text_proofs
