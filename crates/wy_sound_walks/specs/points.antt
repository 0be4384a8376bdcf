-- what public contracts cite
pub mod Stay
