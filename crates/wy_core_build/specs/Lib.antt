-- field types in order
pub mod SeenFields
-- a property's clauses at a use of it
pub mod Instances
-- passed on to the crates above
pub use Rattle.wy_core.specs as wy_core
