pub mod certified
pub mod chains
pub mod closing
pub mod ends
pub mod programs
pub mod rounds
pub mod sound
pub mod sums
-- passed on to the crates above
pub use Rattle.wy_search_bounds.specs.wy_cert as wy_cert
pub use Rattle.wy_search_bounds.specs.wy_check_laws as wy_check_laws
pub use Rattle.wy_search_bounds.specs.wy_check_nodes as wy_check_nodes
pub use Rattle.wy_search_bounds.specs.wy_check_spec as wy_check_spec
pub use Rattle.wy_search_bounds.specs.wy_cong as wy_cong
pub use Rattle.wy_search_bounds.specs.wy_facts as wy_facts
pub use Rattle.wy_search_bounds.specs.wy_lin as wy_lin
pub use Rattle.wy_search_bounds.specs as wy_search_bounds
pub use Rattle.wy_search_bounds.specs.wy_search_spec as wy_search_spec
