-- what public contracts cite
pub mod Term
pub mod Data
pub mod Same
pub mod Meaning
pub mod Rewriting
pub mod Folding
pub mod Sorts
pub mod Condition
pub mod Scope
pub mod Unfolding
pub mod Nodes
pub mod Numbers
-- what functions inside owe each other
pub mod FoldingView
pub mod ReplacingView
pub mod Copying
-- passed on to the crates above
pub use Rattle.wy_value.specs.wy_data as wy_data
pub use Rattle.wy_value.specs as wy_value
pub use Rattle.wy_value.specs.wy_items as wy_items
