-- definitions of public contracts
pub mod Known
pub mod Valued
-- definitions for functions inside
pub mod Numbers
pub mod Marks
pub mod Clausal
pub mod Ways
-- passed on to the crates above
pub use Rattle.wy_canon.specs as wy_canon
pub use Rattle.wy_canon.specs.wy_core as wy_core
pub use Rattle.wy_canon.specs.wy_types as wy_types
pub use Rattle.wy_canon.specs.wy_value as wy_value
