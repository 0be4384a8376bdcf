-- what public contracts cite
pub mod Least
