-- passed on to the crates above
pub use Rattle.wy_search_bounds.proofs.wy_check_proofs as wy_check_proofs
pub use Rattle.wy_check_splits.proofs as wy_check_splits_proofs
pub use Rattle.wy_search_bounds.proofs as wy_search_bounds_proofs
pub use Rattle.wy_check_nodes.proofs as wy_check_nodes_proofs
