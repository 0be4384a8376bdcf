-- what public contracts cite
pub mod Front
