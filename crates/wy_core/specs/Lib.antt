-- the tree as plain data
pub mod Types
pub mod CoreTree
-- what the nodes of a tree are as plain data
pub mod CoreSeen
pub mod formed
pub mod same
-- passed on to the crates above
pub use Rattle.wy_value.specs as wy_value
