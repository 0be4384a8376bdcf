-- what public contracts cite
pub mod Only
pub mod Steps
pub mod Numbers
pub mod Arguments
pub mod Lines
pub mod File
pub mod writing
-- passed on to the crates above
pub use Rattle.wy_term_text.specs as wy_term_text
pub use Rattle.wy_term_text.specs.wy_value as wy_value
