-- what public contracts cite
pub mod Listed
