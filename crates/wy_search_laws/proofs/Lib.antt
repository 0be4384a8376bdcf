pub mod certified_lemmas
pub mod chains_lemmas
pub mod closing_lemmas
pub mod ends_lemmas
pub mod programs_lemmas
pub mod rounds_lemmas
pub mod sound_lemmas
pub mod sums_lemmas
-- passed on to the crates above
pub use Rattle.wy_search_bounds.proofs.wy_check_proofs as wy_check_proofs
pub use Rattle.wy_search_bounds.proofs.wy_check_laws_proofs as wy_check_laws_proofs
pub use Rattle.wy_search_bounds.proofs.wy_check_nodes_proofs as wy_check_nodes_proofs
pub use Rattle.wy_search_bounds.proofs.wy_check_spec_proofs as wy_check_spec_proofs
pub use Rattle.wy_search_bounds.proofs.wy_facts_proofs as wy_facts_proofs
pub use Rattle.wy_search_bounds.proofs as wy_search_bounds_proofs
pub use Rattle.wy_search_bounds.proofs.wy_search_spec_proofs as wy_search_spec_proofs
