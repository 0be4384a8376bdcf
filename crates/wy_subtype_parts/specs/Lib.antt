-- definitions of public contracts
pub mod Norms
pub mod Items
pub mod Fields
pub mod updates
-- passed on to the crates above
pub use Rattle.wy_subtype.specs.wy_core as wy_core
pub use Rattle.wy_subtype.specs as wy_subtype
pub use Rattle.wy_subtype.specs.wy_types as wy_types
pub use Rattle.wy_subtype.specs.wy_value as wy_value
