-- definitions of public contracts
pub mod Updates
