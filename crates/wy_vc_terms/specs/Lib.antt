-- what is made
pub mod Made
-- what loops make
pub mod Wholes
-- passed on to the crates above
pub use Rattle.wy_vc_operations.specs as wy_vc_operations
pub use Rattle.wy_vc_tables.specs.wy_vc_spec as wy_vc_spec
pub use Rattle.wy_vc_tables.specs as wy_vc_tables
