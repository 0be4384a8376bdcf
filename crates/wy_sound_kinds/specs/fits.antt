-- what public contracts cite
pub mod Fit
