pub mod clauses_lemmas
pub mod depends_lemmas
pub mod expressions_lemmas
pub mod heads_lemmas
pub mod joins_lemmas
pub mod points_lemmas
-- passed on to the crates above
pub use Rattle.wy_sound_terms.proofs as wy_sound_terms_proofs
