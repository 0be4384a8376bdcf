-- which values are tried for a type
pub mod Candidates
-- in which order they are put together
pub mod Tuples
-- what is tried, and what a probe finds
pub mod Trials
-- what functions inside owe each other
pub mod Tables
pub mod Turns
pub mod Comes
pub mod Tallies
-- passed on to the crates above
pub use Rattle.wy_types.specs as wy_types
