-- what public contracts cite
pub mod Due
