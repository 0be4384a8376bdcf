-- what public contracts cite
pub mod Laws
