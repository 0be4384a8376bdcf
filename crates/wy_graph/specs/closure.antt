-- definitions of public contracts
pub mod Marks
pub mod Closure
-- definitions for functions inside
pub mod Index
pub mod Work
