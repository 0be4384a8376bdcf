-- definitions of public contracts
pub mod Nodes
pub mod Meaning
pub mod Standing
pub mod Parts
pub mod Slots
pub mod Making
pub mod Extending
pub mod Importing
pub mod Copying
pub mod Putting
pub mod Comparing
pub mod Reaching
-- definitions for functions inside
pub mod Changing
pub mod Freeing
pub mod Numbering
pub mod Weighing
pub mod Showing
pub mod Settling
