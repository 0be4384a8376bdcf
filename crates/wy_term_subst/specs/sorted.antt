-- what public contracts cite
pub mod Sorted
