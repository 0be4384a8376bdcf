-- what public contracts cite
pub mod Parts
