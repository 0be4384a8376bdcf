-- what public contracts cite
pub mod Depends
pub mod Begins
