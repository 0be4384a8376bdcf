-- what the walk of the code stands for
pub mod States
pub mod Paths
-- passed on to the crates above
pub use Rattle.wy_types.specs as wy_types
