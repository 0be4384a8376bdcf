pub mod reread
pub mod show
pub mod spell
-- passed on to the crates above
pub use Rattle.wy_term.specs.wy_data as wy_data
pub use Rattle.wy_term.specs as wy_term
pub use Rattle.wy_term.specs.wy_value as wy_value
