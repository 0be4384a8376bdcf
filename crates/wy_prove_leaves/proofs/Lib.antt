pub mod linked_lemmas
pub mod stated_sums_lemmas
-- passed on to the crates above
pub use Rattle.wy_prove_drafts.proofs.wy_check_nodes_proofs as wy_check_nodes_proofs
pub use Rattle.wy_prove_drafts.proofs.wy_search_laws_proofs as wy_search_laws_proofs
pub use Rattle.wy_search_spec.proofs as wy_search_spec_proofs
