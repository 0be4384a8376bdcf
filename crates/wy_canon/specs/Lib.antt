-- definitions of public contracts
pub mod Width
-- definitions for functions inside
pub mod Digests
pub mod Numbered
-- passed on to the crates above
pub use Rattle.wy_types.specs.wy_core as wy_core
pub use Rattle.wy_types.specs as wy_types
pub use Rattle.wy_types.specs.wy_value as wy_value
