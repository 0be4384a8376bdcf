pub mod WordLemmas
pub mod scan_lemmas
-- passed on to the crates above
pub use Rattle.wy_lemmas.proofs as wy_lemmas_proofs
