pub mod reread_lemmas
pub mod show_lemmas
pub mod spell_lemmas
-- passed on to the crates above
pub use Rattle.wy_term.proofs.wy_data_proofs as wy_data_proofs
pub use Rattle.wy_term.proofs.wy_lemmas_proofs as wy_lemmas_proofs
