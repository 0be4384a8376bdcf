pub mod linked
pub mod stated_sums
-- passed on to the crates above
pub use Rattle.wy_prove_drafts.specs.wy_check_nodes as wy_check_nodes
pub use Rattle.wy_prove_drafts.specs.wy_cong as wy_cong
pub use Rattle.wy_prove_drafts.specs.wy_search_laws as wy_search_laws
pub use Rattle.wy_search_spec.specs as wy_search_spec
