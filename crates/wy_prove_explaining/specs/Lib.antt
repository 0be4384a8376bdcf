-- what functions inside owe each other
-- passed on to the crates above
pub use Rattle.wy_search_bounds.specs.wy_check as wy_check
pub use Rattle.wy_search_bounds.specs as wy_search_bounds
pub use Rattle.wy_check_nodes.specs as wy_check_nodes
