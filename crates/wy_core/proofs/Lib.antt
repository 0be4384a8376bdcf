pub mod formed_lemmas
pub mod same_lemmas
-- passed on to the crates above
pub use Rattle.wy_value.proofs.wy_lemmas_proofs as wy_lemmas_proofs
