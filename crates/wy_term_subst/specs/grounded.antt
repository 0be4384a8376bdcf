-- what public contracts cite
pub mod Readings
pub mod Chains
