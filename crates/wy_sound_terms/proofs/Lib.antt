pub mod formed_lemmas
pub mod numbers_lemmas
pub mod operations_lemmas
-- passed on to the crates above
pub use Rattle.wy_vc_spec.proofs.wy_core_proofs as wy_core_proofs
pub use Rattle.wy_vc_spec.proofs.wy_graph_proofs as wy_graph_proofs
pub use Rattle.wy_vc_spec.proofs.wy_sem_proofs as wy_sem_proofs
pub use Rattle.wy_term_subst.proofs as wy_term_subst_proofs
pub use Rattle.wy_vc_spec.proofs as wy_vc_spec_proofs
