-- what public contracts cite
pub mod Meant
