-- what public contracts cite
pub mod Numbers
