-- what public contracts cite
pub mod Draft
pub mod Progress
-- what the crate's own contracts cite
pub mod Adding
-- passed on to the crates above
pub use Rattle.wy_search_laws.specs.wy_check_laws as wy_check_laws
pub use Rattle.wy_check_nodes.specs as wy_check_nodes
pub use Rattle.wy_search_laws.specs.wy_check_spec as wy_check_spec
pub use Rattle.wy_search_laws.specs.wy_cong as wy_cong
pub use Rattle.wy_search_laws.specs.wy_search_bounds as wy_search_bounds
pub use Rattle.wy_search_laws.specs as wy_search_laws
pub use Rattle.wy_search_laws.specs.wy_search_spec as wy_search_spec
pub use Rattle.wy_check_splits.specs as wy_check_splits
