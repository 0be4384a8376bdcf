-- what public contracts cite
pub mod Ends
