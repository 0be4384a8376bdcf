pub mod WithinLemmas
pub mod NameLemmas
pub mod ScopeLemmas
pub mod StillLemmas
pub mod WalkLemmas
pub mod StepLemmas
pub mod grounded_lemmas
pub mod kept_sorts_lemmas
pub mod sorted_lemmas
pub mod substituted_lemmas
-- passed on to the crates above
pub use Rattle.wy_term.proofs.wy_lemmas_proofs as wy_lemmas_proofs
pub use Rattle.wy_term.proofs as wy_term_proofs
