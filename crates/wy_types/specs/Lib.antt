-- what a term says of a value
pub mod Shape
pub mod Membership
pub mod Ranked
pub mod Names
-- the conjuncts of a term
pub mod Claims
pub mod Same
pub mod Merge
pub mod Conjuncts
-- emptiness
pub mod Asks
pub mod Reach
-- types in a table
pub mod SeenTypes
pub mod Nodes
pub mod NodeLaws
pub mod Numbering
pub mod Standing
pub mod Recursion
pub mod Agreement
pub mod Reading
pub mod Questions
-- passed on to the crates above
pub use Rattle.wy_core.specs as wy_core
pub use Rattle.wy_core.specs.wy_value as wy_value
