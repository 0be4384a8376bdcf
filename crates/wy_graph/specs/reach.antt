-- definitions of public contracts
pub mod Reach
-- definitions for functions inside
pub mod Walks
