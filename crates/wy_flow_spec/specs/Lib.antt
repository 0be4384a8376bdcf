pub mod environment
pub mod typing
-- passed on to the crates above
pub use Rattle.wy_subtype_parts.specs.wy_subtype as wy_subtype
pub use Rattle.wy_subtype_parts.specs as wy_subtype_parts
