-- forms that take variables away
pub mod TakingLemmas
-- multipliers, and sums with them
pub mod SumLemmas
-- what is left of forms
pub mod GatherLemmas
pub mod AddingLemmas
pub mod QuotientLemmas
pub mod BoundLemmas
pub mod ProductLemmas
-- forms that are known
pub mod KnownLemmas
-- first places of classes
pub mod FirstLemmas
-- passed on to the crates above
pub use Rattle.wy_check.proofs as wy_check_proofs
pub use Rattle.wy_check.proofs.wy_check_laws_proofs as wy_check_laws_proofs
pub use Rattle.wy_cong.proofs.wy_check_nodes_proofs as wy_check_nodes_proofs
pub use Rattle.wy_cong.proofs.wy_check_spec_proofs as wy_check_spec_proofs
pub use Rattle.wy_cong.proofs.wy_check_splits_proofs as wy_check_splits_proofs
pub use Rattle.wy_cong.proofs.wy_facts_proofs as wy_facts_proofs
pub use Rattle.wy_lin.proofs as wy_lin_proofs
pub use Rattle.wy_lin_eliminate.proofs as wy_lin_eliminate_proofs
pub use Rattle.wy_cong.proofs.wy_search_spec_proofs as wy_search_spec_proofs
pub use Rattle.wy_term.proofs as wy_term_proofs
pub use Rattle.wy_cong.proofs.wy_term_subst_proofs as wy_term_subst_proofs
pub use Rattle.wy_cong.proofs.wy_term_text_proofs as wy_term_text_proofs
pub use Rattle.wy_check.proofs.wy_vc_laws_proofs as wy_vc_laws_proofs
