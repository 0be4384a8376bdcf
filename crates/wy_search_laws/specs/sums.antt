-- what public contracts cite
pub mod Refuted
