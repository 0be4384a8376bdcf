-- what public contracts cite
pub mod Tested
