-- what public contracts cite
pub mod Linear
pub mod TermForm
pub mod Combination
pub mod Worth
pub mod Seen
-- what functions inside owe each other
pub mod Work
-- passed on to the crates above
pub use Rattle.wy_term.specs as wy_term
