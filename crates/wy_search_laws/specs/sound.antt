-- what public contracts cite
pub mod Closed
pub mod Found
