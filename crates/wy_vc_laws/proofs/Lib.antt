pub mod folded_lemmas
pub mod grounded_lemmas
pub mod listed_types_lemmas
pub mod shown_lemmas
-- passed on to the crates above
pub use Rattle.wy_check_laws.proofs as wy_check_laws_proofs
pub use Rattle.wy_check_laws.proofs.wy_facts_proofs as wy_facts_proofs
pub use Rattle.wy_sound_terms.proofs as wy_sound_terms_proofs
pub use Rattle.wy_check_laws.proofs.wy_term_proofs as wy_term_proofs
