-- what public contracts cite
pub mod Chains
