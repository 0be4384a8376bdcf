-- what public contracts cite
pub mod Steps
